-- What is made stands at the start of `made`, or the refusal is put.
use Rattle.std.proofs.Common.{rules, arith, refl}
use Rattle.probe_blobs.proofs.BlobTexts.{converted_fits, converted_text, refused_text}
use Rattle.probe_blobs.proofs.put_converted.Goals as goal

pub put_vector-requires : goal.put_vector-requires
put_vector-requires g c =
    let fits = converted_fits _ _ _ _ _ _ _ c.in-Ok.ensures in
    (search rules, (refl, (omega (arith, fits, c.convert.auto.out), (search rules, c.requires.room))))

pub returns-in-Ok-clause-puts : goal.returns-in-Ok-clause-puts
returns-in-Ok-clause-puts g c = rw (← converted_text _ _ _ _ _ _ _ c.in-Ok.ensures (search rules) (search rules)) c.put_vector.ensures.puts

pub returns-in-Err-clause-puts : goal.returns-in-Err-clause-puts
returns-in-Err-clause-puts g c = rw (← refused_text _ _ _ _ _ _ _ c.in-Err.ensures (search rules) (search rules)) c.put_refusal.ensures.puts
