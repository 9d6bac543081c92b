-- A replay that comes in blocks: what each byte of the input writes, what is kept between two blocks, and the lines of
-- an input. Every program that reads a replay goes by this.
use Rattle.std.specs.Prelude.{◌≡◌, ℕ, ◌-◌, Bool, true, false, List, [], ◌∷◌, ◌++◌, length, take, ◌==◌, nat_lt, Option, None, Some}
use Rattle.std.proofs.lemmas.List.Edits.{sets}
use Rattle.base.specs.Pick.{pick}
use Rattle.rules.specs.Sizes.{Settings, base}
use Rattle.rules.specs.Words.{plus}
use Rattle.rules.specs.Step.{State}
use Rattle.replays.specs.declared.kept.Kept.{Kept}
use Rattle.replays.specs.Replay.{Ran, ran, ran_line}

-- ---- where a replay stands after some bytes: the tables, the first bytes of the line begun, and that line's number
pub record Stand : Type 0 where
  pub state : State
  pub line : List ℕ
  pub number : ℕ

abbrev pub stand : State → List ℕ → ℕ → Stand
stand s l n = record { state = s; line = l; number = n }

-- 29 bytes are too many for a frame, so that a longer line is bad whatever follows
abbrev pub keep : List ℕ → ℕ → List ℕ
keep l b = take 29 (l ++ b ∷ [])

-- ---- bytes of the input: what they write, and where the replay stands then
pub record Run : Type 0 where
  pub text : List ℕ
  pub then : Stand

abbrev pub run : List ℕ → Stand → Run
run t p = record { text = t; then = p }

-- the line is answered, and the next one begins
abbrev pub ends : ℕ → Ran → Run
ends n r = run r.text (stand r.state [] (plus n 1))

abbrev pub run_byte : Settings → Stand → ℕ → Run
run_byte g p b =
    pick (b == 10) (ends p.number (ran_line g p.state p.line true p.number))
    (run [] (stand p.state (keep p.line b) p.number))

-- one run behind another
abbrev pub behind : List ℕ → Run → Run
behind t r = run (t ++ r.text) r.then

unfoldable pub run_bytes : Settings → Stand → List ℕ → Run
run_bytes g p [] = run [] p
run_bytes g p (b ∷ l) = behind (run_byte g p b).text (run_bytes g (run_byte g p b).then l)

-- ---- a block, with room for so many bytes of answers: it is run up to the first newline whose answer has none
unfoldable pub fitting : ℕ → List ℕ → List ℕ
fitting room [] = []
fitting room (b ∷ l) = pick (b == 10) (pick (nat_lt room 21) [] (b ∷ fitting (room - 21) l)) (b ∷ fitting room l)

abbrev pub run_block : Settings → Stand → ℕ → List ℕ → Run
run_block g p room l = run_bytes g p (fitting room l)

-- ---- the end of the input: a line without newline is bad
abbrev pub run_end : Settings → Stand → Ran
run_end g p = pick (length p.line == 0) (ran [] p.state) (ran_line g p.state p.line false p.number)

abbrev pub followed : List ℕ → Ran → Ran
followed t r = ran (t ++ r.text) r.state

abbrev pub ended : Settings → Run → Ran
ended g r = followed r.text (run_end g r.then)

-- ---- a whole input: its lines are numbered from 1
unfoldable pub run_all : Settings → State → List ℕ → Ran
run_all g s l = ended g (run_bytes g (stand s [] 1) l)

-- ---- the lines of an input: each ends at a newline, and what follows the last newline is one more, which has none
pub record Cut : Type 0 where
  pub bytes : List ℕ
  pub whole : Bool

abbrev pub cut : List ℕ → Bool → Cut
cut l w = record { bytes = l; whole = w }

-- the lines of bytes that stand behind the beginning of a line
unfoldable pub lines_after : List ℕ → List ℕ → List Cut
lines_after l [] = pick (length l == 0) [] (cut l false ∷ [])
lines_after l (b ∷ bs) = pick (b == 10) (cut l true ∷ lines_after [] bs) (lines_after (l ++ b ∷ []) bs)

abbrev pub lines_of : List ℕ → List Cut
lines_of = lines_after []

-- the bytes of lines, each with its newline
unfoldable pub joined : List Cut → List ℕ
joined [] = []
joined (l ∷ ls) = l.bytes ++ pick l.whole (10 ∷ []) [] ++ joined ls

-- lines one after another, the first of them the n-th
unfoldable pub run_lines : Settings → State → ℕ → List Cut → Ran
run_lines g s n [] = ran [] s
run_lines g s n (l ∷ ls) =
    let r = ran_line g s l.bytes l.whole n in
    followed r.text (run_lines g r.state (plus n 1) ls)

-- ---- what a block leaves: its answers at the front of `out`, how many bytes they are, how many bytes were run
pub record Left : Type 0 where
  pub out : List ℕ
  pub used : ℕ
  pub taken : ℕ
  pub then : Stand

abbrev pub left : List ℕ → ℕ → ℕ → Stand → Left
left o u t p = record { out = o; used = u; taken = t; then = p }

unfoldable pub block_of : Settings → Stand → List ℕ → List ℕ → Left
block_of g p input out =
    let r = run_block g p (length out) input in
    left (sets out 0 r.text) (length r.text) (length (fitting (length out) input)) r.then

-- where a replay stands by what the code keeps
abbrev pub standing : State → Kept → Stand
standing s k = stand s k.line k.number

-- before the first block, and at the end of the input
abbrev pub Begins : ℕ → Kept → Type 0
Begins n k = (s : State) → standing s k ≡ stand s [] n

-- what is written at the end of the input, where anything is
abbrev pub ending : Option (List ℕ) → List ℕ
ending None = []
ending (Some t) = t

abbrev pub Ends : List ℕ → Kept → Type 0
Ends text k = (s : State) → ran text s ≡ run_end base (standing s k)
