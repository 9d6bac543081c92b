-- What comes back as a number and a value: 0 to 4 for what an operation has come to, 16 to 29 for why it is refused.
use Rattle.std.specs.Prelude.{ℕ, ◌+◌, Result, Ok, Err}
use denote.Enum.Declared.{tag_of}
use Rattle.rules.specs.contracts.answer.Refusal.{the_type}
use Rattle.rules.specs.declared.answer.Answer.{Answer}
use Rattle.rules.specs.declared.answer.Outcome.{Outcome}
use Rattle.rules.specs.declared.answer.Outcome.TheVariants.{Stepped, Started, Done, Retry, Reclaimed}
use Rattle.rules.specs.declared.answer.Refusal.{Refusal}

abbrev pub answer : ℕ → ℕ → Answer
answer n v = record { number = n; value = v }

-- the number of the enum's variant
abbrev pub number_of : Refusal → ℕ
number_of e = tag_of the_type e + 16

abbrev pub answer_of : Result Outcome Refusal → Answer
answer_of (Ok Stepped) = answer 0 0
answer_of (Ok Started) = answer 1 0
answer_of (Ok (Done v)) = answer 2 v
answer_of (Ok (Retry v)) = answer 3 v
answer_of (Ok (Reclaimed v)) = answer 4 v
answer_of (Err e) = answer (number_of e) 0

-- a refusal's number where there is one, else 0
abbrev pub refusal_of : Result (Unit {0}) Refusal → ℕ
refusal_of (Ok u) = 0
refusal_of (Err e) = number_of e
