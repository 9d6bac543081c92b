-- Fields and their text: what is read fits, and each gives back the other. They rest on the reading of a number.
use Rattle.std.specs.Prelude.{ℕ, ◌+◌, ◌≤◌, ◌<◌, ◌^◌, ◌≡◌, true, List, [], ◌∷◌, ◌++◌, length, take, drop}
use Rattle.std.proofs.Common.{sym, length-take, length-drop, take_at, take-add, take_all, lit≤, arith}
use Rattle.frames.specs.Hex.{all_digits, field, digits_of}
use Rattle.frames.specs.HexLaws.{take_digits, drop_digits}
use Rattle.frames.specs.Frames.{fields, fields_in, text_of, Fit}
use Rattle.frames.specs.declared.Fields.{Fields}
use Rattle.frames.proofs.NumberLaws.{number_digits, digits_number, number_fits}

-- ---- what is read fits
field_fits : (l : List ℕ) (at n : ℕ) → at + n ≤ length l → all_digits l ≡ true → field at n l < 16 ^ n
field_fits l at n q h =
    let e : length (take n (drop at l)) ≡ n = simp (length-take, length-drop) (omega arith) in
    rw e at (number_fits (take n (drop at l)) (take_digits n (drop at l) (drop_digits at l h)))

pub fields_fit : (f : Fields) (l : List ℕ) → f ≡ fields_in l → length l ≡ 28 → all_digits l ≡ true → Fit f
unfolding fields_in
fields_fit f l e n h = rw e (record {
  kind_fits = field_fits l 0 2 (omega arith) h;
  thread-fits = field_fits l 2 2 (omega arith) h;
  a-fits = field_fits l 4 4 (omega arith) h;
  b-fits = field_fits l 8 4 (omega arith) h;
  c-fits = field_fits l 12 16 (omega arith) h;
})

-- ---- fields and their text
pub fields-text : (f : Fields) → Fit f → fields_in (take 28 (text_of f)) ≡ f
unfolding fields_in text_of digits_of
fields-text f h = λ i. fields (number_digits 2 f.kind h.kind_fits i) (number_digits 2 f.thread h.thread-fits i) (number_digits 4 f.a h.a-fits i) (number_digits 4 f.b h.b-fits i) (number_digits 16 f.c h.c-fits i)

-- ---- the text of fields that are read
part-text : (l : List ℕ) (at n : ℕ) → at + n ≤ length l → all_digits l ≡ true → digits_of n (field at n l) ≡ take n (drop at l)
part-text l at n q h =
    let e : length (take n (drop at l)) ≡ n = simp (length-take, length-drop) (omega arith) in
    rw e at (digits_number (take n (drop at l)) (take_digits n (drop at l) (drop_digits at l h)))

pub text-fields : (l : List ℕ) → length l ≡ 28 → all_digits l ≡ true → take 28 (text_of (fields_in l)) ≡ l
unfolding fields_in text_of
text-fields l n h =
    let d : (at k : ℕ) → at + k ≤ 28 → digits_of k (field at k l) ≡ take k (drop at l) = λ at k q. part-text l at k (omega arith) h in
    let e : take 2 (drop 0 l) ++ take 2 (drop 2 l) ++ take 4 (drop 4 l) ++ take 4 (drop 8 l) ++ take 16 (drop 12 l) ≡ l = rw (sym (take-add 2 2 l), sym (take-add 4 4 l), sym (take-add 8 4 l), sym (take-add 12 16 l)) (take_all 28 l (omega arith)) in
    rw (d 0 2 (lit≤ tt), d 2 2 (lit≤ tt), d 4 4 (lit≤ tt), d 8 4 (lit≤ tt), d 12 16 (lit≤ tt), e) (take_at l (10 ∷ []) 28 n)
