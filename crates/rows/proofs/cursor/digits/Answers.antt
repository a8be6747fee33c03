-- The power of ten counts them; at 0, which has none, there is one. Assumes nothing.
use Rattle.std.proofs.Common.{rules}
use Rattle.rows.proofs.Digits.{digits-none, digits-count}
use Rattle.rows.proofs.cursor.digits.Goals as goal

pub returns : goal.returns
returns c = search (rules, digits-none, digits-count)
