-- The operations' kinds by their numbers in a frame.
use Rattle.std.specs.Prelude.{ℕ, ◌+◌, ◌<◌, ◌≡◌, ◌⊎◌, Result, MatchResult}
use denote.Enum.Declared.{tag_of}
use Rattle.rules.specs.contracts.kind.Kind.{the_type}
use Rattle.rules.specs.declared.kind.Kind.{Kind}
use Rattle.rules.specs.declared.kind.NoKind.{NoKind}

-- the number of the enum's variant
abbrev pub kind : Kind → ℕ
kind k = tag_of the_type k + 1

-- the operation of a number, or that it is none's
abbrev pub Decodes : ℕ → Result Kind NoKind → Type 0
Decodes n r = MatchResult r (λ k. kind k ≡ n) (λ e. (e.0 ≡ n) × ((n ≡ 0) ⊎ (12 < n)))
