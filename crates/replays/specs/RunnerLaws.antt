-- What a reader may take from the runner: a run does not depend on where its blocks are cut, and the answers to an input
-- are the answers to its lines.
use Rattle.std.specs.Prelude.{◌≡◌, ℕ, ◌-◌, ◌*◌, ◌<◌, ◌≤◌, Bool, true, false, List, [], ◌∷◌, ◌++◌, length, take, drop, ◌==◌, nat_eq, nat_le, nat_lt, refl}
use Rattle.std.proofs.Common.{sym, ap, ◌∙◌, append_assoc, append-nil, take_all, length-take-le, eqb-true, ne_eqb, le-ltb, leb-true, leb-false, arith}
use Rattle.base.specs.Pick.{pick}
use Rattle.rules.specs.Sizes.{Settings}
use Rattle.rules.specs.Words.{plus}
use Rattle.rules.specs.Step.{State}
use Rattle.frames.specs.Frames.{line_of}
use Rattle.frames.specs.declared.Line.{Line}
use Rattle.frames.specs.LineLaws.{line_other}
use Rattle.texts.specs.LineLaws.{take-front}
use Rattle.replays.specs.Replay.{written, reply_to, ran_line}
use Rattle.replays.specs.Runner.{Stand, stand, run, run_byte, behind, run_bytes, fitting, run_block, followed, ended, run_all, lines_after, lines_of, joined, run_lines}

-- ---- blocks: the bytes of two are run as one after the other
pub cut_anywhere : (g : Settings) (p : Stand) (a b : List ℕ) → run_bytes g p (a ++ b) ≡ behind (run_bytes g p a).text (run_bytes g (run_bytes g p a).then b)
unfolding run_bytes
cut_anywhere g p [] b = refl
cut_anywhere g p (x ∷ a) b =
    let q = run_byte g p x in
    let t = run_bytes g q.then a in
    ap (behind q.text) (cut_anywhere g q.then a b) ∙ ap (λ (l : List ℕ). run l (run_bytes g t.then b).then) (sym (append_assoc q.text t.text (run_bytes g t.then b).text))

-- ---- what a block leaves is the rest of its bytes, and it leaves none where there are 21 bytes of room for each
either : (P : List ℕ → Type 0) (t : Bool) (x y : List ℕ) → P x → P y → P (pick t x y)
either P true x y p q = p
either P false x y p q = q

pub fitting-front : (room : ℕ) (l : List ℕ) → fitting room l ++ drop (length (fitting room l)) l ≡ l
unfolding fitting
fitting-front room [] = refl
fitting-front room (b ∷ l) =
    let front : List ℕ → Type 0 = λ f. f ++ drop (length f) (b ∷ l) ≡ b ∷ l in
    let more : (r : ℕ) → front (b ∷ fitting r l) = λ r. ap (λ (k : List ℕ). b ∷ k) (fitting-front r l) in
    either front (b == 10) _ _ (either front (nat_lt room 21) _ _ refl (more (room - 21))) (more room)

pub fitting-all : (room : ℕ) (l : List ℕ) → 21 * length l ≤ room → fitting room l ≡ l
unfolding fitting
fitting-all room [] h = refl
fitting-all room (b ∷ l) h =
    let more : (r : ℕ) → 21 * length l ≤ r → b ∷ fitting r l ≡ b ∷ l = λ r k. ap (λ (f : List ℕ). b ∷ f) (fitting-all r l k) in
    rw (le-ltb room 21 (omega arith)) (either (λ (f : List ℕ). f ≡ b ∷ l) (b == 10) _ _ (more (room - 21) (omega arith)) (more room (omega arith)))

pub block_and_rest : (g : Settings) (p : Stand) (room : ℕ) (l : List ℕ) → run_bytes g p l ≡ behind (run_block g p room l).text (run_bytes g (run_block g p room l).then (drop (length (fitting room l)) l))
block_and_rest g p room l = ap (run_bytes g p) (sym (fitting-front room l)) ∙ cut_anywhere g p (fitting room l) (drop (length (fitting room l)) l)

-- ---- lines: the first 29 bytes of a line are as good as the whole
line-cut : (l : List ℕ) → line_of (take 29 l) ≡ line_of l
line-cut l = by (nat_le (length l) 29) refl
  where
    by : (t : Bool) → nat_le (length l) 29 ≡ t → line_of (take 29 l) ≡ line_of l
    by true e = ap line_of (take_all 29 l (leb-true (length l) 29 e))
    by false e =
        let h : 29 < length l = leb-false (length l) 29 e in
        let n : length (take 29 l) ≡ 29 = length-take-le 29 l (omega arith) in
        sym (line_other (take 29 l) (λ z. omega arith)) ∙ line_other l (λ z. omega arith)

cut-long : (g : Settings) (s : State) (l : List ℕ) (w : Bool) (n : ℕ) → ran_line g s (take 29 l) w n ≡ ran_line g s l w n
unfolding ran_line
cut-long g s l true n = ap (λ (m : Line). written (reply_to g s n m)) (line-cut l)
cut-long g s l false n = refl

-- bytes behind the beginning l of the n-th line, of which 29 bytes are kept, are run as the lines that they make
abbrev Answered : Settings → State → List ℕ → ℕ → List ℕ → Type 0
Answered g s l n bs = ended g (run_bytes g (stand s (take 29 l) n) bs) ≡ run_lines g s n (lines_after l bs)

lines_end : (g : Settings) (s : State) (l : List ℕ) (n : ℕ) → Answered g s l n []
unfolding run_bytes run_lines lines_after
lines_end g s [] n = refl
lines_end g s (x ∷ l) n =
    rw (ne_eqb (length (take 29 (x ∷ l))) 0 (λ z. omega arith), ne_eqb (length (x ∷ l)) 0 (λ z. omega arith), cut-long, append-nil)

module _ (g : Settings) (s : State) (l : List ℕ) (n b : ℕ) (bs : List ℕ) where
  lines_line : nat_eq b 10 ≡ true → ((r : State) → Answered g r [] (plus n 1) bs) → Answered g s l n (b ∷ bs)
  unfolding run_bytes run_lines lines_after
  lines_line e more =
      let r = ran_line g s l true n in
      rw (e, cut-long, append_assoc) (ap (followed r.text) (more r.state))

  lines_on : nat_eq b 10 ≡ false → Answered g s (l ++ b ∷ []) n bs → Answered g s l n (b ∷ bs)
  unfolding run_bytes run_lines lines_after
  lines_on e more = rw (e, take-front) more

lines_after_lem : (g : Settings) (s : State) (l : List ℕ) (n : ℕ) (bs : List ℕ) → Answered g s l n bs
lines_after_lem g s l n [] = lines_end g s l n
lines_after_lem g s l n (b ∷ bs) =
    by (b == 10) (lines_line g s l n b bs) (lines_on g s l n b bs) (λ r. lines_after_lem g r [] (plus n 1) bs) (lines_after_lem g s (l ++ b ∷ []) n bs) refl
  where
    by : (t : Bool) {M N A : Type 0} → ((b == 10) ≡ true → M → A) → ((b == 10) ≡ false → N → A) → M → N → (b == 10) ≡ t → A
    by true p q m k e = p e m
    by false p q m k e = q e k

pub lines_answered : (g : Settings) (s : State) (l : List ℕ) → run_all g s l ≡ run_lines g s 1 (lines_of l)
unfolding run_all
lines_answered g s l = lines_after_lem g s [] 1 l

-- ---- no byte is lost: the lines of an input are the input
lines_joined_after : (l bs : List ℕ) → joined (lines_after l bs) ≡ l ++ bs
unfolding joined lines_after
lines_joined_after [] [] = refl
lines_joined_after (x ∷ l) [] = rw (ne_eqb (length (x ∷ l)) 0 (λ z. omega arith)) (ap (λ (k : List ℕ). x ∷ k) (append_assoc l [] [] ∙ ap (λ (k : List ℕ). l ++ k) (append-nil [])))
lines_joined_after l (b ∷ bs) = by (b == 10) refl (lines_joined_after [] bs) (lines_joined_after (l ++ b ∷ []) bs)
  where
    by : (t : Bool) → (b == 10) ≡ t → joined (lines_after [] bs) ≡ bs → joined (lines_after (l ++ b ∷ []) bs) ≡ (l ++ b ∷ []) ++ bs → joined (lines_after l (b ∷ bs)) ≡ l ++ b ∷ bs
    by true e p q = rw (e, p) (append_assoc l (10 ∷ []) bs ∙ ap (λ (k : ℕ). l ++ k ∷ bs) (sym (eqb-true b 10 e)))
    by false e p q = rw e (q ∙ append_assoc l (b ∷ []) bs)

pub lines_joined : (l : List ℕ) → joined (lines_of l) ≡ l
lines_joined l = lines_joined_after [] l
