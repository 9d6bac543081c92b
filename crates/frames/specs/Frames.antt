-- The lines of the replay program, as document 01 has them.
use Rattle.std.specs.Prelude.{ℕ, ◌^◌, ◌<◌, List, [], ◌∷◌, ◌++◌, length, get_or, eqb, ltb}
use Rattle.base.specs.Pick.{pick}
use Rattle.rules.specs.declared.Operation.{Operation}
use Rattle.rules.specs.declared.Operation.TheVariants.{Acquire, Release, Protect, Try, TryProtect, Reset, Raw, Swap, Retire, Eager, Cleanup, Shutdown}
use Rattle.frames.specs.Hex.{all_digits, field, digits_of}
use Rattle.frames.specs.declared.Fields.{Fields}
use Rattle.frames.specs.declared.Line.{Line}
use Rattle.frames.specs.declared.Line.TheVariants.{Step, Start, Bad}

abbrev pub fields : ℕ → ℕ → ℕ → ℕ → ℕ → Fields
fields kind thread a b c = record { kind = kind; thread = thread; a = a; b = b; c = c }

-- ---- a frame that is read: kind (1 byte), thread (1), a (2), b (2), c (8), high byte first
unfoldable pub fields_in : List ℕ → Fields
fields_in l = fields (field 0 2 l) (field 2 2 l) (field 4 4 l) (field 8 4 l) (field 12 16 l)

-- a line, where the fields that it does not use are 0
abbrev pub unused : List ℕ → Line → Line
unused [] l = l
unused (n ∷ ns) l = pick (eqb n 0) (unused ns l) Bad

-- the kinds 00 to 0c, of thread t
abbrev pub kinds : ℕ → ℕ → ℕ → ℕ → List Line
kinds t a b c =
    pick (ltb a 2) (unused (b ∷ []) (Step t (eqb a 1) c)) Bad
    ∷ unused (a ∷ b ∷ c ∷ []) (Start t Acquire)
    ∷ unused (b ∷ c ∷ []) (Start t (Release a))
    ∷ unused (c ∷ []) (Start t (Protect a b))
    ∷ Start t (Try a b c)
    ∷ Start t (TryProtect a b c)
    ∷ unused (b ∷ c ∷ []) (Start t (Reset a))
    ∷ unused (b ∷ []) (Start t (Raw a c))
    ∷ unused (a ∷ []) (Start t (Swap b c))
    ∷ unused (b ∷ []) (Start t (Retire a c))
    ∷ unused (a ∷ b ∷ c ∷ []) (Start t Eager)
    ∷ unused (a ∷ b ∷ c ∷ []) (Start t Cleanup)
    ∷ unused (a ∷ b ∷ c ∷ []) (Start t Shutdown)
    ∷ []

unfoldable pub framed : Fields → Line
framed f = get_or (kinds f.thread f.a f.b f.c) f.kind Bad

-- the line of 28 digits; its newline is cut off
unfoldable pub line_of : List ℕ → Line
line_of l = pick (eqb (length l) 28) (pick (all_digits l) (framed (fields_in l)) Bad) Bad

-- ---- a frame that is written; a bad one has a kind that is none
abbrev pub start_fields : ℕ → Operation → Fields
start_fields t Acquire = fields 1 t 0 0 0
start_fields t (Release a) = fields 2 t a 0 0
start_fields t (Protect a b) = fields 3 t a b 0
start_fields t (Try a b n) = fields 4 t a b n
start_fields t (TryProtect a b n) = fields 5 t a b n
start_fields t (Reset a) = fields 6 t a 0 0
start_fields t (Raw a n) = fields 7 t a 0 n
start_fields t (Swap b n) = fields 8 t 0 b n
start_fields t (Retire n x) = fields 9 t n 0 x
start_fields t Eager = fields 10 t 0 0 0
start_fields t Cleanup = fields 11 t 0 0 0
start_fields t Shutdown = fields 12 t 0 0 0

unfoldable pub fields_of : Line → Fields
fields_of (Step t flag c) = fields 0 t (pick flag 1 0) 0 c
fields_of (Start t o) = start_fields t o
fields_of Bad = fields 255 0 0 0 0

unfoldable pub text_of : Fields → List ℕ
text_of f = digits_of 2 f.kind ++ digits_of 2 f.thread ++ digits_of 4 f.a ++ digits_of 4 f.b ++ digits_of 16 f.c ++ 10 ∷ []

unfoldable pub frame_of : Line → List ℕ
frame_of l = text_of (fields_of l)

-- each number fits its bytes
pub record Fit (f : Fields) : Type 0 where
  pub kind_fits : f.kind < 256
  pub thread-fits : f.thread < 256
  pub a-fits : f.a < 65536
  pub b-fits : f.b < 65536
  pub c-fits : f.c < 2 ^ 64

-- ---- an answer: number (1 byte), thread (1), value (8), and the newline
unfoldable pub answer_of : ℕ → ℕ → ℕ → List ℕ
answer_of number thread value = digits_of 2 number ++ digits_of 2 thread ++ digits_of 16 value ++ 10 ∷ []
