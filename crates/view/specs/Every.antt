-- Every place and every start at once: one proof that fits each of them is a proof for all, so that no layer goes through them by itself.
use Rattle.std.specs.Prelude.{ℕ, ◌≡◌, Bool, true, false, eqb, List, [], ◌∷◌}
use Rattle.std.proofs.Common.{subst}
use Rattle.base.specs.Pick.{pick}
use Rattle.rules.specs.Pc.{code}
pub use Rattle.rules.specs.Every.{pc_of_code, pc_is, Two, two, Span, every, pick_all, pick_case}
use Rattle.rules.specs.declared.pc.Pc.{Pc}
use Rattle.rules.specs.declared.Effect.{Effect}
use Rattle.rules.specs.declared.Operation.{Operation}
use Rattle.rules.specs.declared.Operation.TheVariants.{Acquire, Release, Protect, Try, TryProtect, Reset, Raw, Swap, Retire, Eager, Cleanup, Shutdown}

-- a class of places: what the list says of a place, else c
abbrev pub classed : {C : Type 0} → C → List (Pc × C) → Pc → C
classed c [] p = c
classed c (x ∷ l) p = pick (eqb (code x.0) (code p)) x.1 (classed c l p)

-- two of anything are the same where nothing can be
pub never : {A : Type 0} {x y : A} → ⊥ → x ≡ y
never q = absurd q

-- ---- what a layer says of a place p and an effect e, as a type of its own, which `search` does not look into
pub record At (K : Pc → Effect → Type 0) (p : Pc) (e : Effect) : Type 0 where
  pub holds : K p e

pub thus : {K : Pc → Effect → Type 0} {p : Pc} {e : Effect} → K p e → At K p e
thus k = record { holds = k }

-- the same where the type is K p e once the place and the effect are known
pub thence : {K : Pc → Effect → Type 0} {p : Pc} {e : Effect} {X : Type 0} → X ≡ K p e → X → At K p e
thence q x = thus (subst (λ (Y : Type 0). Y) q x)

-- each way of a test, knowing the test
pub either : {K : Pc → Effect → Type 0} {p : Pc} (b : Bool) (x y : Effect) → (b ≡ true → At K p x) → (b ≡ false → At K p y) → At K p (pick b x y)
either {K} {p} b x y h k = pick_case (At K p) b x y h k

-- ---- every start
abbrev pub Starts : (Operation → Type 0) → Type 0
Starts P =
    Two (Two (Two (P Acquire) ((a : ℕ) → P (Release a))) (Two ((a b : ℕ) → P (Protect a b)) ((a b n : ℕ) → P (Try a b n))))
    (Two (Two (Two ((a b n : ℕ) → P (TryProtect a b n)) ((a : ℕ) → P (Reset a))) (Two ((a n : ℕ) → P (Raw a n)) ((b n : ℕ) → P (Swap b n))))
    (Two (Two ((n x : ℕ) → P (Retire n x)) (P Eager)) (Two (P Cleanup) (P Shutdown))))

pub every-start : (P : Operation → Type 0) → Starts P → (o : Operation) → P o
every-start P s Acquire = s.one.one.one
every-start P s (Release a) = s.one.one.other a
every-start P s (Protect a b) = s.one.other.one a b
every-start P s (Try a b n) = s.one.other.other a b n
every-start P s (TryProtect a b n) = s.other.one.one.one a b n
every-start P s (Reset a) = s.other.one.one.other a
every-start P s (Raw a n) = s.other.one.other.one a n
every-start P s (Swap b n) = s.other.one.other.other b n
every-start P s (Retire n x) = s.other.other.one.one n x
every-start P s Eager = s.other.other.one.other
every-start P s Cleanup = s.other.other.other.one
every-start P s Shutdown = s.other.other.other.other
