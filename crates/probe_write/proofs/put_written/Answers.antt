-- What is written stands at the start of `made`, or the refusal is put.
use Rattle.std.proofs.Common.{sym, arith, rules, append_assoc, refl}
use lib.Seq.{length-take-le}
use Rattle.probe_write.proofs.WriteTexts.{written_fits, written_text, refused_text}
use Rattle.probe_write.proofs.put_written.Goals as goal

pub slice_bounds-put_bytes-end : goal.slice_bounds-put_bytes-end
slice_bounds-put_bytes-end g c = let fits = written_fits _ _ _ _ _ _ c.in-Ok.ensures in omega (arith, fits, c.write.auto.out)

pub slice_bounds-put_bytes-end-in-Ok : goal.slice_bounds-put_bytes-end-in-Ok
slice_bounds-put_bytes-end-in-Ok g c =
    let fits = written_fits _ _ _ _ _ _ c.in-Ok.ensures in sym (length-take-le _ _ (omega (arith, fits, c.write.auto.out)))

pub returns-in-Ok-clause-puts : goal.returns-in-Ok-clause-puts
returns-in-Ok-clause-puts g c =
    rw (← written_text _ _ _ _ _ _ c.in-Ok.ensures (search rules), c.put_bytes.ensures.puts, c.extend_from_slice.ensures, append_assoc) refl

pub returns-in-Err-clause-puts : goal.returns-in-Err-clause-puts
returns-in-Err-clause-puts g c = rw (← refused_text _ _ _ _ _ _ c.in-Err.ensures (search rules)) c.put_refusal.ensures.puts
