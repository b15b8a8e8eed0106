-- The answer at the place is put with the elements that stand in `scratch` as f32.
use Rattle.std.proofs.Common.{rules}
use Rattle.probe_vecs.proofs.FileTexts.{bvecs-text}
use Rattle.probe_vecs.proofs.put_bvecs.Goals as goal

pub floats_length-requires : goal.floats_length-requires
floats_length-requires g c = (bvecs-text _ _ _ (search rules) _ _ c.bvecs_at-answer.ensures).0

pub returns-clause-puts : goal.returns-clause-puts
returns-clause-puts g c =
    let shown = (bvecs-text _ _ _ (search rules) _ _ c.bvecs_at-answer.ensures).1 in
    rw (← shown, ← c.floats_length.ensures.value) c.put_answer.ensures.puts
