-- The five lent tables as one value.
use Rattle.std.specs.Prelude.{◌≡◌}
use Rattle.rules.specs.Step.{State, lent}
use Rattle.tables.specs.declared.lent.Lent.{Lent}
use Rattle.tables.specs.declared.lent.Readable.{Readable}

-- what they hold
abbrev pub held : Lent → State
held l = lent l.ids.now l.next.now l.state.now l.words.now l.guards.now

-- the same of those that are only read
abbrev pub shown : Readable → State
shown s = lent s.ids.now s.next.now s.state.now s.words.now s.guards.now

-- they are the caller's same tables, whatever they hold
pub record AreSame (l m : Lent) : Type 0 where
  pub ids : m.ids.ghost_name ≡ l.ids.ghost_name
  pub next : m.next.ghost_name ≡ l.next.ghost_name
  pub state : m.state.ghost_name ≡ l.state.ghost_name
  pub words : m.words.ghost_name ≡ l.words.ghost_name
  pub guards : m.guards.ghost_name ≡ l.guards.ghost_name
