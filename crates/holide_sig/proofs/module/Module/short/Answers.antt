use Rattle.std.proofs.Common.{◌+◌, ◌∙◌, ap}
use Rattle.std.specs.Prelude.{option_map}
use Rattle.holide_sig.proofs.ShortSymbols.{short-number}
use Rattle.holide_sig.proofs.module.Module.short.Goals as goal

pub returns : goal.returns
returns c =
    ap (option_map (λ n. 18 + n)) c.in_ok-place.ensures.place
    ∙ short-number c.args.self.now.table c.requires.held.distinct c.args.id c.requires.known c.args.self.now.decls c.requires.held.decls

pub returns-in_err-place : goal.returns-in_err-place
returns-in_err-place c =
    c.from_residual.ensures ∙ ap (option_map (λ n. 18 + n)) c.in_err-place.ensures.place
    ∙ short-number c.args.self.now.table c.requires.held.distinct c.args.id c.requires.known c.args.self.now.decls c.requires.held.decls
