use Rattle.std.proofs.Common.{◌+◌, ◌∙◌, ap, sym, length}
use Rattle.std.specs.Prelude.{option_map}
use Rattle.lp_spec.specs.Modules.{signature}
use Rattle.holide_sig.proofs.Pushed.{found_first, found_later}
use Rattle.holide_sig.proofs.module.Module.find.Goals as goal

pub returns-in-Some : goal.returns-in-Some
returns-in-Some c = found_first c.args.self.now.table c.args.name.now c.args.self.now.decls signature c.in-Some.symbol c.in-Some.ensures

pub returns-in_ok-place-in-None : goal.returns-in_ok-place-in-None
returns-in_ok-place-in-None c =
    ap (option_map (λ n. length signature + n)) c.in_ok-place-in-None.ensures.place
    ∙ sym (found_later c.args.self.now.table c.args.name.now c.args.self.now.decls signature c.in-None.ensures)

pub returns-in_err-place-in-None : goal.returns-in_err-place-in-None
returns-in_err-place-in-None c =
    c.from_residual.ensures ∙ ap (option_map (λ n. length signature + n)) c.in_err-place-in-None.ensures.place
    ∙ sym (found_later c.args.self.now.table c.args.name.now c.args.self.now.decls signature c.in-None.ensures)
