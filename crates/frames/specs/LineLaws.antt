-- How the code that reads and writes a line meets the definitions.
use Rattle.std.specs.Prelude.{ℕ, ◌+◌, ◌≤◌, ◌≡◌, refl, Bool, true, false, List, [], ◌++◌, length, get_or, take, drop, replicate}
use Rattle.std.proofs.Math.Path.{sym}
use Rattle.std.proofs.Common.{ap, ◌∙◌, append_assoc, length-append, take_at, drop_at, ne_eqb, arith}
use Rattle.std.proofs.lemmas.List.{length-replicate, replicate-append-replicate}
use Rattle.std.proofs.Math.ListN.{get_or-eq_default}
use Rattle.std.proofs.lemmas.List.Edits.{sets, sets-eq}
use Rattle.rules.specs.declared.Operation.{Operation}
use Rattle.frames.specs.Hex.{all_digits, digits_of}
use Rattle.frames.specs.HexLaws.{digits_length}
use Rattle.frames.specs.Frames.{fields_in, kinds, framed, line_of, start_fields, fields_of, text_of, answer_of}
use Rattle.frames.specs.declared.Fields.{Fields}
use Rattle.frames.specs.declared.Line.{Line}
use Rattle.frames.specs.declared.Line.TheVariants.{Bad}

-- an arm of the `match` on a kind, and of those on a line and on an operation
pub framed_as : (f : Fields) (r : Line) (k : ℕ) → f.kind ≡ k → r ≡ get_or (kinds f.thread f.a f.b f.c) k Bad → r ≡ framed f
unfolding framed
framed_as f r k e p = p ∙ sym (ap (λ (n : ℕ). get_or (kinds f.thread f.a f.b f.c) n Bad) e)

pub framed-none : (f : Fields) → 13 ≤ f.kind → Bad ≡ framed f
unfolding framed
framed-none f h = sym (get_or-eq_default (kinds f.thread f.a f.b f.c) Bad h)

pub fields-of : (r : Fields) (l m : Line) → l ≡ m → r ≡ fields_of m → r ≡ fields_of l
fields-of r l m e p = p ∙ sym (ap fields_of e)

pub start_of : (r : Fields) (t : ℕ) (o p : Operation) → o ≡ p → r ≡ start_fields t p → r ≡ start_fields t o
start_of r t o p e q = q ∙ sym (ap (start_fields t) e)

-- ---- a line that is a frame or not, by whether all its bytes are digits
module _ (l : List ℕ) (d : Bool) (e : d ≡ all_digits l) (n : length l ≡ 28) where
  pub line_yes : (r : Line) → d ≡ true → r ≡ framed (fields_in l) → r ≡ line_of l
  unfolding line_of
  line_yes r h p = p ∙ sym (rw (n, sym e, h))

  pub line_no : d ≡ false → Bad ≡ line_of l
  unfolding line_of
  line_no h = sym (rw (n, sym e, h))

pub line_other : (l : List ℕ) → (length l ≡ 28 → ⊥) → Bad ≡ line_of l
unfolding line_of
line_other l h = sym (rw (ne_eqb (length l) 28))

-- ---- a line that is written from its start: p stands there, at bytes long, and m newlines after it
record Laid (l p : List ℕ) (at m : ℕ) : Type 0 where
  is : l ≡ p ++ replicate m 10
  long : length p ≡ at

blank : (m : ℕ) → Laid (replicate m 10) [] 0 m
blank m = record { is = refl; long = refl }

laid : {l p l' : List ℕ} {at : ℕ} (n m x : ℕ) → Laid l p at (n + m) → l' ≡ sets l at (digits_of n x) → Laid l' (p ++ digits_of n x) (at + n) m
laid {l} {p} {l'} {at} n m x h e =
    let d : length (digits_of n x) ≡ n = digits_length n x in
    let q : l ≡ p ++ replicate n 10 ++ replicate m 10 = rw (append_assoc, replicate-append-replicate) h.is in
    let long : length (p ++ replicate n 10) ≡ at + n = simp (length-append, length-replicate) (omega arith) in
    let fits : at + length (digits_of n x) ≤ length l = rw q (simp (length-append, length-replicate) (omega arith)) in
    let rest : drop (at + length (digits_of n x)) l ≡ replicate m 10 = rw (d, q) (drop_at (p ++ replicate n 10) (replicate m 10) (at + n) long) in
    let front : take at l ≡ p = rw h.is (take_at p (replicate (n + m) 10) at h.long) in
    record {
      is = e ∙ rw (sets-eq (digits_of n x) l at fits, front, rest);
      long = simp length-append (omega arith);
    }

pub text-laid : (f : Fields) (l₁ l₂ l₃ l₄ l₅ : List ℕ) → l₅ ≡ sets l₄ 12 (digits_of 16 f.c) → l₄ ≡ sets l₃ 8 (digits_of 4 f.b) → l₃ ≡ sets l₂ 4 (digits_of 4 f.a) → l₂ ≡ sets l₁ 2 (digits_of 2 f.thread) → l₁ ≡ sets (replicate 29 10) 0 (digits_of 2 f.kind) → l₅ ≡ text_of f
unfolding text_of
text-laid f l₁ l₂ l₃ l₄ l₅ c b a t k =
    (laid 16 1 f.c (laid 4 17 f.b (laid 4 21 f.a (laid 2 25 f.thread (laid 2 27 f.kind (blank 29) k) t) a) b) c).is

pub answer-laid : (n t v : ℕ) (l₁ l₂ l₃ : List ℕ) → l₃ ≡ sets l₂ 4 (digits_of 16 v) → l₂ ≡ sets l₁ 2 (digits_of 2 t) → l₁ ≡ sets (replicate 21 10) 0 (digits_of 2 n) → l₃ ≡ answer_of n t v
unfolding answer_of
answer-laid n t v l₁ l₂ l₃ c b a = (laid 16 1 v (laid 2 17 t (laid 2 19 n (blank 21) a) b) c).is
