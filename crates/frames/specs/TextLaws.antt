-- A line, its fields and their text: each gives back the one before.
use Rattle.std.specs.Prelude.{ℕ, zero, suc, ◌+◌, ◌<◌, ◌≡◌, refl, ◌≢◌, Bool, true, false, List, [], ◌∷◌, ◌++◌, length, get_or, take, eqb, ltb}
use Rattle.std.proofs.Common.{sym, lt-ltb, le-ltb, eq-eqb, ne_eqb, zero-add, add-zero, arith}
use Rattle.std.proofs.Math.Decide.{dec_lt, ℕ_discrete}
use Rattle.base.specs.Pick.{pick}
use Rattle.rules.specs.declared.Operation.{Operation}
use Rattle.rules.specs.declared.Operation.TheVariants.{Acquire, Release, Protect, Try, TryProtect, Reset, Raw, Swap, Retire, Eager, Cleanup, Shutdown}
use Rattle.frames.specs.Hex.{all_digits, digits_of}
use Rattle.frames.specs.HexLaws.{all_append, all_of_digits}
use Rattle.frames.specs.Frames.{fields, unused, kinds, framed, start_fields, fields_of, text_of}
use Rattle.frames.specs.declared.Fields.{Fields}
use Rattle.frames.specs.declared.Line.{Line}
use Rattle.frames.specs.declared.Line.TheVariants.{Step, Start, Bad}

-- ---- a line and its fields
framed-start : (t : ℕ) (o : Operation) → framed (start_fields t o) ≡ Start t o
unfolding framed
framed-start t Acquire = refl
framed-start t (Release a) = refl
framed-start t (Protect a b) = refl
framed-start t (Try a b n) = refl
framed-start t (TryProtect a b n) = refl
framed-start t (Reset a) = refl
framed-start t (Raw a n) = refl
framed-start t (Swap b n) = refl
framed-start t (Retire n x) = refl
framed-start t Eager = refl
framed-start t Cleanup = refl
framed-start t Shutdown = refl

pub framed-fields : (l : Line) → framed (fields_of l) ≡ l
unfolding framed fields_of
framed-fields (Step t true c) = refl
framed-fields (Step t false c) = refl
framed-fields (Start t o) = framed-start t o
framed-fields Bad = refl

-- ---- fields and their text
pub text_digits : (f : Fields) → all_digits (take 28 (text_of f)) ≡ true
unfolding text_of digits_of
text_digits f = all_are_digits
  where
    all_are_digits : all_digits (digits_of 2 f.kind ++ digits_of 2 f.thread ++ digits_of 4 f.a ++ digits_of 4 f.b ++ digits_of 16 f.c) ≡ true
    all_are_digits = search (all_append, all_of_digits)

pub text-length : (f : Fields) → length (take 28 (text_of f)) ≡ 28
unfolding text_of digits_of
text-length f = refl

-- ---- the fields of a line that is not bad
infixr 60 ◌⨾◌
◌⨾◌ : {A B : Type 0} → A → B → A × B
a ⨾ b = (a, b)

abbrev pub Same : Fields → Line → Type 0
Same f l = l ≢ Bad → fields_of l ≡ f

same_bad : (f : Fields) → Same f Bad
same_bad f q = absurd (q refl)

abbrev Zeros : List ℕ → Type 0
Zeros [] = Unit
Zeros (n ∷ ns) = (n ≡ 0) × Zeros ns

same-unused : (f : Fields) (l : Line) (ns : List ℕ) → (Zeros ns → fields_of l ≡ f) → Same f (unused ns l)
same-unused f l [] h = λ q. h tt
same-unused f l (n ∷ ns) h = go (ℕ_discrete n 0) (λ e. same-unused f l ns (λ z. h (e, z)))
  where
    go : Dec (n ≡ 0) → (n ≡ 0 → Same f (unused ns l)) → Same f (unused (n ∷ ns) l)
    go (yes e) k = rw (eq-eqb n 0) (k e)
    go (no ne) k = rw (ne_eqb n 0) (same_bad f)

flag_bit : (a : ℕ) → a < 2 → pick (eqb a 1) 1 0 ≡ a
flag_bit a h = go (ℕ_discrete a 1)
  where
    go : Dec (a ≡ 1) → pick (eqb a 1) 1 0 ≡ a
    go (yes e) = rw (eq-eqb a 1) (sym e)
    go (no ne) = rw (ne_eqb a 1) (omega arith)

-- each line of a list has its own kind, the first kind i
module _ (t a b c : ℕ) where
  abbrev Kinds : ℕ → List Line → Type 0
  Kinds i [] = Unit
  Kinds i (l ∷ ls) = Same (fields i t a b c) l × Kinds (suc i) ls

  same_at : (i k : ℕ) (ls : List Line) → Kinds i ls → Same (fields (k + i) t a b c) (get_or ls k Bad)
  same_at i k [] h = same_bad _
  same_at i zero (l ∷ ls) h = rw zero-add h.0
  same_at i (suc k) (l ∷ ls) h = let e : suc k + i ≡ k + suc i = omega arith in rw e (same_at (suc i) k ls h.1)

  same_step : Same (fields 0 t a b c) (pick (ltb a 2) (unused (b ∷ []) (Step t (eqb a 1) c)) Bad)
  unfolding fields_of
  same_step = go (dec_lt a 2)
    where
      go : Dec (a < 2) → Same (fields 0 t a b c) (pick (ltb a 2) (unused (b ∷ []) (Step t (eqb a 1) c)) Bad)
      go (yes h) = rw (lt-ltb a 2) (same-unused _ _ (b ∷ []) (λ z i. fields 0 t (flag_bit a h i) (sym z.0 i) c))
      go (no h) = rw (le-ltb a 2 (omega arith)) (same_bad _)

  same-kinds : Kinds 0 (kinds t a b c)
  unfolding fields_of
  same-kinds =
      same_step
      ⨾ same-unused _ _ (a ∷ b ∷ c ∷ []) (λ z. cc)
      ⨾ same-unused _ _ (b ∷ c ∷ []) (λ z. cc)
      ⨾ same-unused _ _ (c ∷ []) (λ z. cc)
      ⨾ (λ q. refl)
      ⨾ (λ q. refl)
      ⨾ same-unused _ _ (b ∷ c ∷ []) (λ z. cc)
      ⨾ same-unused _ _ (b ∷ []) (λ z. cc)
      ⨾ same-unused _ _ (a ∷ []) (λ z. cc)
      ⨾ same-unused _ _ (b ∷ []) (λ z. cc)
      ⨾ same-unused _ _ (a ∷ b ∷ c ∷ []) (λ z. cc)
      ⨾ same-unused _ _ (a ∷ b ∷ c ∷ []) (λ z. cc)
      ⨾ same-unused _ _ (a ∷ b ∷ c ∷ []) (λ z. cc)
      ⨾ tt

pub same-framed : (f : Fields) → Same f (framed f)
unfolding framed
same-framed f =
    rw add-zero at
    (same_at f.thread f.a f.b f.c 0 f.kind (kinds f.thread f.a f.b f.c)
    (same-kinds f.thread f.a f.b f.c))

pub picked : (b : Bool) (l : Line) → pick b l Bad ≢ Bad → b ≡ true
picked true l q = refl
picked false l q = absurd (q refl)
