-- How the loop over the lines of a block meets the definition: what is left to run, at each turn.
use Rattle.std.specs.Prelude.{◌≡◌, ℕ, suc, ◌+◌, ◌-◌, ◌<◌, ◌≤◌, Bool, true, false, List, [], ◌∷◌, ◌++◌, length, take, drop, ◌==◌, ◌≢◌, nat_lt, slice_index, refl}
use Rattle.std.proofs.Common.{zero-le, sym, ◌∙◌, append_assoc, append-nil, drop_of_length-le, take_all, drop-cons, drop-drop, eqb-true, ne_eqb, lt-ltb, le-ltb, ltb-false, add-one, add-zero, zero-add}
use Rattle.std.proofs.Math.Path.{ap}
use Rattle.std.proofs.Math.ListN.{length-append, length-take}
use Rattle.std.proofs.Math.Seq.{sets, length-sets}
use Rattle.std.proofs.lemmas.Bool.{eqb-false}
use native.Mathlib.Omega.{arith}
use Rattle.rules.specs.Sizes.{Settings}
use Rattle.rules.specs.Words.{plus}
use Rattle.rules.specs.Step.{State}
use Rattle.frames.specs.HexLaws.{digits_length}
use Rattle.frames.specs.Frames.{line_of, answer_of}
use Rattle.frames.specs.declared.Line.{Line}
use Rattle.texts.specs.Lines.{up_to}
use Rattle.texts.specs.LineLaws.{take-front, up_none, up_on, up_all, up_first}
use Rattle.texts.specs.TextLaws.{sets_append}
use Rattle.replays.specs.declared.kept.Kept.{Kept}
use Rattle.replays.specs.Replay.{Reply, replied, reply_to, line_in, Ran, ran, written, ran_line}
use Rattle.replays.specs.RunnerLaws.{fitting-front}
use Rattle.replays.specs.Runner.{Stand, stand, keep, Run, behind, run_bytes, fitting, run_block, Left, left, block_of, Ends}

-- ---- the bytes up to a newline are kept
fits_on : (room b : ℕ) (l : List ℕ) → (b ≢ 10) → fitting room (b ∷ l) ≡ b ∷ fitting room l
unfolding fitting
fits_on room b l z = rw (ne_eqb b 10 z)

fits_up : (room : ℕ) (l : List ℕ) → fitting room l ≡ up_to l ++ fitting room (drop (length (up_to l)) l)
unfolding fitting up_to
fits_up room [] = refl
fits_up room (b ∷ l) = by (b == 10) refl (fits_up room l)
  where
    by : (t : Bool) → (b == 10) ≡ t → fitting room l ≡ up_to l ++ fitting room (drop (length (up_to l)) l) → fitting room (b ∷ l) ≡ up_to (b ∷ l) ++ fitting room (drop (length (up_to (b ∷ l))) (b ∷ l))
    by true e more = ap (λ (u : List ℕ). u ++ fitting room (drop (length u) (b ∷ l))) (sym (up_none b l (eqb-true b 10 e)))
    by false e more =
        let z = eqb-false b 10 e in
        fits_on room b l z ∙ ap (λ (k : List ℕ). b ∷ k) more ∙ ap (λ (u : List ℕ). u ++ fitting room (drop (length u) (b ∷ l))) (sym (up_on b l z))

abbrev Keeps : Settings → State → List ℕ → ℕ → List ℕ → List ℕ → Type 0
Keeps g s l n u y = run_bytes g (stand s l n) (u ++ y) ≡ run_bytes g (stand s (take 29 (l ++ u)) n) y

keeps-none : (g : Settings) (s : State) (l : List ℕ) (n : ℕ) (y : List ℕ) → length l ≤ 29 → Keeps g s l n [] y
keeps-none g s l n y h = ap (λ (k : List ℕ). run_bytes g (stand s k n) y) (sym (ap (take 29) (append-nil l) ∙ take_all 29 l h))

keeps_on : (g : Settings) (s : State) (l : List ℕ) (n b : ℕ) (u y : List ℕ) → (b ≢ 10) → Keeps g s (keep l b) n u y → Keeps g s l n (b ∷ u) y
unfolding run_bytes
keeps_on g s l n b u y z more =
    rw (ne_eqb b 10 z) (more ∙ ap (λ (k : List ℕ). run_bytes g (stand s k n) y) (take-front 29 (l ++ b ∷ []) u ∙ ap (take 29) (append_assoc l (b ∷ []) u)))

keeps_up : (g : Settings) (s : State) (l : List ℕ) (n : ℕ) (x y : List ℕ) → length l ≤ 29 → Keeps g s l n (up_to x) y
unfolding up_to
keeps_up g s l n [] y h = keeps-none g s l n y h
keeps_up g s l n (b ∷ x) y h = by (b == 10) refl (keeps_up g s (keep l b) n x y (simp length-take (omega arith)))
  where
    by : (t : Bool) → (b == 10) ≡ t → Keeps g s (keep l b) n (up_to x) y → Keeps g s l n (up_to (b ∷ x)) y
    by true e more = rw (up_none b x (eqb-true b 10 e)) (keeps-none g s l n y h)
    by false e more = let z = eqb-false b 10 e in rw (up_on b x z) (keeps_on g s l n b (up_to x) y z more)

-- the line as it is cut out
pub part-line : (m : Line) (bytes : List ℕ) (n : ℕ) → m ≡ line_of (take (n - 0) bytes) → m ≡ line_of (take n bytes)
part-line m bytes n e = e ∙ ap (λ (k : ℕ). line_of (take k bytes)) (let z : n - 0 ≡ n = omega arith in z)

-- ---- a newline is answered where there is room
module _ (g : Settings) (s s' : State) (l : List ℕ) (n : ℕ) where
  -- the line's answer as the code has it
  pub answered : (r : Reply) (m : Line) → replied r s' ≡ reply_to g s n m → m ≡ line_of l → ran_line g s l true n ≡ ran (answer_of r.number r.thread r.value) s'
  unfolding ran_line
  answered r m p e = ap (λ (k : Line). written (reply_to g s n k)) (sym e) ∙ ap written (sym p)

pub answer-length : (n t v : ℕ) → length (answer_of n t v) ≡ 21
unfolding answer_of
answer-length n t v = simp (length-append, digits_length)

-- ---- what is still to be written behind the first `used` bytes of out, where the bytes from `at` on are still to be run
abbrev wrote : List ℕ → ℕ → ℕ → List ℕ → Run → Left
wrote out used at f r = left (sets out used r.text) (used + length r.text) (at + length f) r.then

abbrev onto : Settings → Stand → List ℕ → List ℕ → ℕ → ℕ → Left
onto g p input out used at = let f = fitting (length out - used) (drop at input) in wrote out used at f (run_bytes g p f)

begins : (g : Settings) (p : Stand) (input out : List ℕ) → block_of g p input out ≡ onto g p input out 0 0
unfolding block_of
begins g p input out =
    let z : length out ≡ length out - 0 = omega arith in
    let f = fitting (length out) input in
    let r = run_bytes g p f in
    ap (λ (k : ℕ). left (sets out 0 r.text) k (length f) r.then) (sym (zero-add (length r.text))) ∙ ap (λ (k : ℕ). left (sets out 0 r.text) (0 + length r.text) k r.then) (sym (zero-add (length f)))
    ∙ ap (λ (m : ℕ). wrote out 0 0 (fitting m input) (run_bytes g p (fitting m input))) z

-- the bytes before the next newline
module _ (g : Settings) (s : State) (l : List ℕ) (n : ℕ) (input out : List ℕ) (used at : ℕ) (l' : List ℕ) (at' : ℕ) (e : at' ≡ at + length (up_to (drop at input))) where
  gathers : length l ≤ 29 → l' ≡ take 29 (l ++ up_to (drop at input)) → onto g (stand s l n) input out used at ≡ onto g (stand s l' n) input out used at'
  gathers h q =
      let room = length out - used in
      let x = drop at input in
      let u = up_to x in
      let f = fitting room (drop at' input) in
      let d : fitting room x ≡ u ++ f = fits_up room x ∙ ap (λ (k : List ℕ). u ++ fitting room k) (drop-drop (length u) at input ∙ ap (λ (k : ℕ). drop k input) (sym e)) in
      ap (λ (k : List ℕ). wrote out used at k (run_bytes g (stand s l n) k)) d
      ∙ ap (λ (r : Run). wrote out used at (u ++ f) r) (keeps_up g s l n x f h ∙ ap (λ (k : List ℕ). run_bytes g (stand s k n) f) (sym q))
      ∙ ap (λ (k : ℕ). left (sets out used (run_bytes g (stand s l' n) f).text) (used + length (run_bytes g (stand s l' n) f).text) k (run_bytes g (stand s l' n) f).then) (let z : at + length (u ++ f) ≡ at' + length f = omega (arith, length-append u f, e) in z)

  gathers-all : up_to (drop at' input) ≡ []
  gathers-all = ap up_to (ap (λ (k : ℕ). drop k input) e ∙ sym (drop-drop (length (up_to (drop at input))) at input)) ∙ up_all (drop at input)

-- at a newline or at the end
module _ (g : Settings) (s : State) (l : List ℕ) (n : ℕ) (input out : List ℕ) (used at : ℕ) (z : up_to (drop at input) ≡ []) where
  at-newline : at < length input → drop at input ≡ 10 ∷ drop (at + 1) input
  at-newline h =
      let d = drop-cons input at 0 h in
      d ∙ ap (λ (k : ℕ). k ∷ drop (suc at) input) (up_first (slice_index input at) (drop (suc at) input) (ap up_to (sym d) ∙ z)) ∙ ap (λ (k : ℕ). 10 ∷ drop k input) (sym (add-one at))

  answers : (s' : State) (t : List ℕ) → at < length input → 21 ≤ length out - used → used ≤ length out → ran_line g s l true n ≡ ran t s' → length t ≡ 21 → onto g (stand s l n) input out used at ≡ onto g (stand s' [] (plus n 1)) input (sets out used t) (used + 21) (at + 1)
  unfolding fitting run_bytes
  answers s' t h k q e v =
      let room = length (sets out used t) - (used + 21) in
      let m : length out - used - 21 ≡ room = omega (arith, length-sets out used t) in
      let f = fitting room (drop (at + 1) input) in
      let r = run_bytes g (stand s' [] (plus n 1)) f in
      let d : fitting (length out - used) (drop at input) ≡ 10 ∷ f = ap (fitting (length out - used)) (at-newline h) ∙ rw (le-ltb (length out - used) 21 k, m) in
      ap (λ (y : List ℕ). wrote out used at y (run_bytes g (stand s l n) y)) d
      ∙ ap (λ (a : Ran). wrote out used at (10 ∷ f) (behind a.text (run_bytes g (stand a.state [] (plus n 1)) f))) e
      ∙ ap (λ (o : List ℕ). left o (used + length (t ++ r.text)) (at + suc (length f)) r.then) (sym (sets_append out used t r.text) ∙ ap (λ (w : ℕ). sets (sets out used t) (used + w) r.text) v)
      ∙ ap (λ (w : ℕ). left (sets (sets out used t) (used + 21) r.text) w (at + suc (length f)) r.then) (let y : used + length (t ++ r.text) ≡ used + 21 + length r.text = omega (arith, length-append t r.text, v) in y)
      ∙ ap (λ (w : ℕ). left (sets (sets out used t) (used + 21) r.text) (used + 21 + length r.text) w r.then) (let y : at + suc (length f) ≡ at + 1 + length f = omega arith in y)

  nothing : fitting (length out - used) (drop at input) ≡ [] → left out used at (stand s l n) ≡ onto g (stand s l n) input out used at
  unfolding run_bytes
  nothing e =
      ap (λ (w : ℕ). left out w at (stand s l n)) (sym (add-zero used)) ∙ ap (λ (w : ℕ). left out (used + 0) w (stand s l n)) (sym (add-zero at))
      ∙ ap (λ (y : List ℕ). wrote out used at y (run_bytes g (stand s l n) y)) (sym e)

  stops : at < length input → length out - used < 21 → left out used at (stand s l n) ≡ onto g (stand s l n) input out used at
  unfolding fitting
  stops h k = nothing (ap (fitting (length out - used)) (at-newline h) ∙ rw (lt-ltb (length out - used) 21 k))

  finishes : length input ≤ at → left out used at (stand s l n) ≡ onto g (stand s l n) input out used at
  unfolding fitting
  finishes h = nothing (ap (fitting (length out - used)) (drop_of_length-le input h))

-- ---- the loop: what was due at its beginning, from p₀ on, is due from p on
pub record Running (g : Settings) (p₀ p : Stand) (input out₀ out : List ℕ) (used₀ used at₀ at : ℕ) : Type 0 where
  pub due : onto g p₀ input out₀ used₀ at₀ ≡ onto g p input out used at
  pub newline : up_to (drop at input) ≡ []

module _ (g : Settings) (s : State) (l : List ℕ) (n : ℕ) (input out : List ℕ) (at : ℕ) (l' : List ℕ) (at' : ℕ) (e : at' ≡ at + length (up_to (drop at input))) where
  pub running : Running g (stand s l' n) (stand s l' n) input out out 0 0 at' at'
  running = record { due = refl; newline = gathers-all g s l n input out 0 at l' at' e }

module _ (g : Settings) (p₀ : Stand) (s : State) (l : List ℕ) (n : ℕ) (input out₀ out : List ℕ) (used₀ used at₀ at : ℕ) (v : Running g p₀ (stand s l n) input out₀ out used₀ used at₀ at) where
  pub running_more : (s' : State) (r : Reply) (m : Line) (out' : List ℕ) (n' m' : ℕ) (l' : List ℕ) (at' : ℕ) → at < length input → 21 ≤ length out - used → used ≤ length out → m ≡ line_of l → replied r s' ≡ reply_to g s n m → out' ≡ sets out used (answer_of r.number r.thread r.value) → n' ≡ plus n 1 → m' ≡ 29 → l' ≡ take m' (up_to (drop (at + 1) input)) → at' ≡ at + 1 + length (up_to (drop (at + 1) input)) → Running g p₀ (stand s' l' n') input out₀ out' used₀ (used + 21) at₀ at'
  running_more s' r m out' n' m' l' at' h k q w y o x i d e =
      let t = answer_of r.number r.thread r.value in
      record {
        due = v.due ∙ answers g s l n input out used at v.newline s' t h k q (answered g s s' l n r m y w) (answer-length r.number r.thread r.value)
            ∙ gathers g s' [] (plus n 1) input (sets out used t) (used + 21) (at + 1) l' at' e (omega arith) (d ∙ ap (λ (j : ℕ). take j (up_to (drop (at + 1) input))) i)
            ∙ ap (λ (b : List ℕ). onto g (stand s' l' (plus n 1)) input b (used + 21) at') (sym o)
            ∙ ap (λ (j : ℕ). onto g (stand s' l' j) input out' (used + 21) at') (sym x);
        newline = gathers-all g s' [] n input out used (at + 1) l' at' e;
      }

  pub running-stops : at < length input → length out - used < 21 → left out used at (stand s l n) ≡ onto g p₀ input out₀ used₀ at₀
  running-stops h k = stops g s l n input out used at v.newline h k ∙ sym v.due

  pub running-ends : length input ≤ at → left out used at (stand s l n) ≡ onto g p₀ input out₀ used₀ at₀
  running-ends h = finishes g s l n input out used at v.newline h ∙ sym v.due

-- the block began with the bytes before its first newline
pub block_left : (g : Settings) (s : State) (bytes : List ℕ) (len n : ℕ) (input out : List ℕ) (l' : List ℕ) (at' : ℕ) (r : Left) → length bytes ≡ 29 → l' ≡ take (length bytes) (take len bytes ++ up_to (drop 0 input)) → at' ≡ 0 + length (up_to (drop 0 input)) → r ≡ onto g (stand s l' n) input out 0 at' → r ≡ block_of g (stand s (take len bytes) n) input out
block_left g s bytes len n input out l' at' r h q e p =
    p
    ∙ sym (
    begins g (stand s (take len bytes) n) input out
    ∙ gathers g s (take len bytes) n input out 0 0 l' at' e (simp length-take (omega arith)) (q ∙ ap (λ (k : ℕ). take k (take len bytes ++ up_to (drop 0 input))) h)
    )

-- the same of a line that is no longer than 29 bytes
pub block_run : (g : Settings) (s : State) (l : List ℕ) (n : ℕ) (input out : List ℕ) (l' : List ℕ) (at' : ℕ) (r : Left) → length l ≤ 29 → l' ≡ take 29 (l ++ up_to input) → at' ≡ length (up_to input) → r ≡ onto g (stand s l' n) input out 0 at' → r ≡ block_of g (stand s l n) input out
block_run g s l n input out l' at' r h q e p = p ∙ sym (begins g (stand s l n) input out ∙ gathers g s l n input out 0 0 l' at' (e ∙ sym (zero-add _)) h q)

-- ---- the end of the input
module _ (k : Kept) where
  pub ends-none : length k.line ≡ 0 → Ends [] k
  ends-none h s = rw h

  pub ends_bad : (text : List ℕ) → (length k.line ≢ 0) → text ≡ answer_of 28 0 k.number → Ends text k
  unfolding ran_line reply_to
  ends_bad text n p s = rw (ne_eqb (length k.line) 0 n) (ap (λ (t : List ℕ). ran t s) p)

-- ---- what a caller cuts out of its buffers
line-length : (g : Settings) (s : State) (l : List ℕ) (w : Bool) (n : ℕ) → length (ran_line g s l w n).text ≡ 21
unfolding ran_line
line-length g s l w n = let r = (reply_to g s n (line_in l w)).reply in answer-length r.number r.thread r.value

text-fits : (g : Settings) (room : ℕ) (p : Stand) (l : List ℕ) → length (run_bytes g p (fitting room l)).text ≤ room
unfolding run_bytes fitting
text-fits g room p [] = zero-le
text-fits g room p (b ∷ l) = by (b == 10) (nat_lt room 21) refl refl (λ q. text-fits g (room - 21) q l) (λ q. text-fits g room q l)
  where
    by : (t u : Bool) → (b == 10) ≡ t → nat_lt room 21 ≡ u → ((q : Stand) → length (run_bytes g q (fitting (room - 21) l)).text ≤ room - 21) → ((q : Stand) → length (run_bytes g q (fitting room l)).text ≤ room) → length (run_bytes g p (fitting room (b ∷ l))).text ≤ room
    by true true e d less more = rw (e, d) zero-le
    by true false e d less more =
        let r = ran_line g p.state p.line true p.number in
        let k = run_bytes g (stand r.state [] (plus p.number 1)) (fitting (room - 21) l) in
        let h : 21 ≤ room = ltb-false room 21 d in
        let i : length k.text ≤ room - 21 = less _ in
        rw (e, d, e) (omega (arith, h, i, length-append r.text k.text, line-length g p.state p.line true p.number))
    by false u e d less more = rw (e, e) (more _)

fitting-length : (room : ℕ) (l : List ℕ) → length (fitting room l) ≤ length l
fitting-length room l = let e = ap length (fitting-front room l) in omega (arith, length-append (fitting room l) (drop (length (fitting room l)) l), e)

pub block_fits : (g : Settings) (p q : Stand) (input out o : List ℕ) (used taken : ℕ) → left o used taken q ≡ block_of g p input out → (used ≤ length out) × (taken ≤ length input)
unfolding block_of
block_fits g p q input out o used taken e =
    let u : used ≡ length (run_block g p (length out) input).text = ap (λ (r : Left). r.used) e in
    let t : taken ≡ length (fitting (length out) input) = ap (λ (r : Left). r.taken) e in
    (omega (arith, u, text-fits g (length out) p input), omega (arith, t, fitting-length (length out) input))
