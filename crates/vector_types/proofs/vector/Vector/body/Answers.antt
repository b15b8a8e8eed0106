-- The part that is shown is the body, of which the view tells.
use Rattle.std.proofs.Common.{sym, arith, length-take}
use Rattle.vector_types.proofs.Views.{view-facts}
use Rattle.vector_types.proofs.Bodies.{body_is, body-facts}
use Rattle.vector_types.proofs.vector.Vector.body.Goals as goal

pub slice_bounds-result-end : goal.slice_bounds-result-end
slice_bounds-result-end c = let v = c.args.self in simp length-take (omega (arith, (view-facts _ _ v.is_view).within))

pub returns-clause-result_value : goal.returns-clause-result_value
returns-clause-result_value c = let v = c.args.self in sym (body_is _ _ v.is_view)

pub returns-clause-few : goal.returns-clause-few
returns-clause-few c = let v = c.args.self in (body-facts _ _ v.is_view).few

pub returns-clause-fit : goal.returns-clause-fit
returns-clause-fit c = let v = c.args.self in rw (← body_is _ _ v.is_view) (body-facts _ _ v.is_view).fit

pub returns-clause-inside : goal.returns-clause-inside
returns-clause-inside c = let v = c.args.self in rw (← body_is _ _ v.is_view) (body-facts _ _ v.is_view).inside
