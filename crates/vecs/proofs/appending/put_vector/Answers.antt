-- The body is copied behind the four bytes of the count.
use Rattle.std.proofs.Common.{◌∙◌}
use Rattle.promises.proofs.Onto.{onto-then}
use Rattle.little_endian.specs.Bytes.{bytes_of}
use Rattle.little_endian.proofs.Numbers.{length-bytes_of}
use Rattle.little_endian.proofs.Put.{put_front}
use Rattle.vecs.proofs.appending.put_vector.Goals as goal

pub returns : goal.returns
returns c =
    let a = c.args in
    let count = bytes_of 4 a.dims.0 in
    onto-then count a.body.now a.out.now c.put_u32.new.out c.copy.new.out 4 (c.put_u32.ensures ∙ put_front a.out.now count) (length-bytes_of 4 a.dims.0) c.copy.ensures.left
