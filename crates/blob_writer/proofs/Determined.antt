-- Determinism of the public contract: any two outcomes agree in the answer and in every byte of the buffer.
use mathlib.Core.Path.{◌∙◌, sym}
use Rattle.promises.specs.Determined.{Determined}
use Rattle.blob_writer.specs.Write.{write_leaving}
use Rattle.blob_writer.proofs.write.Reads as write

pub write-determined : (κs : _) (a : _) → Determined (write.Post κs a) (λ r x. write_leaving r x.1.1.1.0.now)
write-determined κs a r r' x x' p q = p ∙ sym q
