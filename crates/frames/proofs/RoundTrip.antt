-- What is written for a line is read back as that line, the text of a line is unique, and an answer is read back.
use Rattle.std.specs.Prelude.{ℕ, ◌%◌, ◌^◌, ◌≡◌, ◌≢◌, true, List, length, take, eqb}
use Rattle.std.proofs.Common.{eqb-true}
use Rattle.frames.specs.Hex.{all_digits, field, digits_of}
use Rattle.frames.proofs.NumberLaws.{number_cut}
use Rattle.frames.specs.Frames.{fields_in, framed, line_of, fields_of, frame_of, Fit, answer_of}
use Rattle.frames.specs.declared.Line.{Line}
use Rattle.frames.specs.declared.Line.TheVariants.{Bad}
use Rattle.frames.specs.TextLaws.{framed-fields, text_digits, text-length, same-framed, picked}
use Rattle.frames.proofs.FieldLaws.{fields-text, text-fields}

-- what is written for a line whose numbers fit their bytes is read back as that line
pub frame_read : (l : Line) → Fit (fields_of l) → line_of (take 28 (frame_of l)) ≡ l
unfolding line_of frame_of
frame_read l h = rw (text-length (fields_of l), text_digits (fields_of l), fields-text (fields_of l) h) (framed-fields l)

-- the text of a line that is not bad is unique
pub frame_unique : (l : List ℕ) → line_of l ≢ Bad → take 28 (frame_of (line_of l)) ≡ l
unfolding line_of frame_of
frame_unique l q =
    let n : eqb (length l) 28 ≡ true = picked _ _ q in
    let d : all_digits l ≡ true = picked _ _ (rw n at q) in
    let e : line_of l ≡ framed (fields_in l) = rw (n, d) in
    rw (e, same-framed (fields_in l) (rw e at q)) (text-fields l (eqb-true _ _ n) d)

-- an answer's number, thread and value are read back, each cut to its bytes
pub answer_read : (n t v : ℕ) → (field 0 2 (answer_of n t v) ≡ n % 256) × (field 2 2 (answer_of n t v) ≡ t % 256) × (field 4 16 (answer_of n t v) ≡ v % 2 ^ 64)
unfolding answer_of digits_of
answer_read n t v = (number_cut 2 n, number_cut 2 t, number_cut 16 v)
