-- Choice by a test: the one way in which the rules branch, and how a branch of the code meets it.
use Rattle.std.specs.Prelude.{◌≡◌, refl, Bool, true, false}
use Rattle.std.proofs.Common.{sym, ◌∙◌, eq-eqb, ne_eqb, lt-ltb, le-ltb, le-leb}
use Rattle.std.proofs.lemmas.Bool.{false≢true, lt-leb}

abbrev pub pick {ℓ} : {A : Type ℓ} → Bool → A → A → A
pick true a b = a
pick false a b = b

-- both of two tests
abbrev pub both : Bool → Bool → Bool
both a b = pick a b false

pub pick_yes {ℓ} : {A : Type ℓ} (b : Bool) (x y : A) → b ≡ true → pick b x y ≡ x
pick_yes b x y e = rw e

pub pick_no {ℓ} : {A : Type ℓ} (b : Bool) (x y : A) → b ≡ false → pick b x y ≡ y
pick_no b x y e = rw e

pub is-both : (a b : Bool) → both a b ≡ true → (a ≡ true) × (b ≡ true)
is-both true b h = (refl, h)
is-both false b h = let z : ◌≡◌ {A = Bool} false true = h in (z, absurd (false≢true z))

-- the same, backwards from a goal
pub is_yes {ℓ} : {A : Type ℓ} (e : A) (b : Bool) (x y : A) → b ≡ true → e ≡ x → e ≡ pick b x y
is_yes e b x y p q = q ∙ sym (pick_yes b x y p)

pub is_no {ℓ} : {A : Type ℓ} (e : A) (b : Bool) (x y : A) → b ≡ false → e ≡ y → e ≡ pick b x y
is_no e b x y p q = q ∙ sym (pick_no b x y p)

-- what closes a return of a function that only branches
pub ruleset cases = (is_yes, is_no, eq-eqb, ne_eqb, lt-ltb, le-ltb, le-leb, lt-leb)
