-- Whatever a program replies to a line, the contract of `serve` determines its outcome, the answer and the lent bytes: stated over the contract's own reading.
use Rattle.std.proofs.Common.{ℕ, List}
use Rattle.promises.specs.Determined.{Determined}
use Rattle.line_stream.specs.declared.ServedLines.{ServedLines}
use Rattle.line_stream.proofs.Determined.{serves-determined}
use Rattle.serving.proofs.serve.Reads as serve

pub serve-determined : (N : _) (R : _) (fits : _) (laws : _) (members : _) (dict : _) (κs : _) (a : _) → Determined {Y = ServedLines × List ℕ} (serve.Post N R fits laws members dict κs a) (λ r x. (r, x.1.1.1.0.now))
serve-determined N R fits laws members dict κs a r r' x x' p q = serves-determined _ _ p q
