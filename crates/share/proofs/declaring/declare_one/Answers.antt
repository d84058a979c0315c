use Rattle.std.proofs.Common.{ap, ◌∙◌, ◌++◌, ◌∷◌, []}
use Rattle.std.proofs.lemmas.Result.{on_ok_weaker}
use Rattle.holide_sig.specs.Modules.{declarations_of}
use Rattle.share.proofs.declaring.declare_one.Goals as goal

pub returns-clause-declared : goal.returns-clause-declared
returns-clause-declared c = on_ok_weaker c.push.result
    (λ e place a. e ∙ ap (λ x. declarations_of c.args.target.now ++ x ∷ []) (c.in_ok-decl.ensures place c.args.target.now.table a).1) c.push.ensures.declared
