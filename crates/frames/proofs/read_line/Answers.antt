use Rattle.std.proofs.Common.{sym, ◌∙◌}
use Rattle.frames.proofs.FieldLaws.{fields_fit}
use Rattle.frames.proofs.read_line.Goals as goal

pub framed-requires : goal.framed-requires
framed-requires c = fields_fit _ _ c.fields_in.ensures c.if-bytes-eq28.true (sym c.all_digits.ensures ∙ c.if-all_digits.true)
