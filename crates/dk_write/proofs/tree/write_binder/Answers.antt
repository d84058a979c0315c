use Rattle.std.proofs.Common.{ap, sym, ◌++◌}
use Rattle.lp_spec.specs.Text.{binder_name}
use Rattle.dk_write.proofs.GainedLaws.{writes_same, writes_stop, writes_then}
use Rattle.dk_write.proofs.tree.write_binder.Goals as goal

pub returns-in_err-write_name : goal.returns-in_err-write_name
returns-in_err-write_name g c = writes_stop _ _ _ _ _ _ _ _ _ _ _ c.in_err-write_name.was c.from_residual.ensures.0 c.write_name.ensures

pub returns : goal.returns
returns g c =
    writes_same _ _ (ap (λ l. binder_name c.args.depth ++ l) (sym c.to_domain.ensures))
    (writes_then _ _ _ _ _ _ _ _ _ _ _ _ _ _ c.in_ok-write_name.was c.write_name.ensures c.write.ensures)
