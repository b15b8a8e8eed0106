-- `text::put_decimal` puts the kit's digits, of which a `u64` has at most 20.
use Rattle.std.proofs.Common.{rules}
use Rattle.lines.proofs.Decimal.{fewest-decimal}
use Rattle.lines.proofs.text.put_decimal.Goals as goal

pub returns-clause-puts : goal.returns-clause-puts
returns-clause-puts g c =
    let e = fewest-decimal c.args.n c.decimal-k.result c.decimal-k.ensures.len in search rules
