use Rattle.std.proofs.Common.{sym, subst}
use Rattle.std.proofs.lemmas.Result.{IfOk-weaker}
use Rattle.lp_term.specs.TableLaws.{Holds-tree_at, Holds-within}
use Rattle.holide_sig.specs.Modules.{declarations_of}
use Rattle.translate_spec.specs.Enc.{Enc}
use Rattle.translate_spec.specs.Scopes.{sequent_tree}
use Rattle.translate_laws.specs.SequentEncoding.{sequent_tree-Enc}
use Rattle.sequent.specs.Closed.{closed_view}
use Rattle.translate_term.specs.GrowLaws.{IsHeld-Grows, declarations_of-Grows}
use Rattle.translate_term.proofs.ParameterScopes.{TellsClosed-HasInstances}
use Rattle.translate_term.proofs.closed_ty.Goals as goal

pub returns-clause-encoded : goal.returns-clause-encoded
returns-clause-encoded c =
    let d = declarations_of c.args.target.now in
    IfOk-weaker c.closed_type.result _ _
    (λ r h symbols s told within meant.
    subst (Enc d (closed_view c.args.closed.now)) (sym (Holds-tree_at _ r.0 _ (h symbols s told)))
    (subst (λ f. Enc d f (sequent_tree symbols s)) told.closed
    (sequent_tree-Enc d symbols s told.is_sequent within (TellsClosed-HasInstances d symbols s (closed_view c.args.closed.now) told) meant)))
    c.closed_type.ensures.made

pub returns-clause-known : goal.returns-clause-known
returns-clause-known c =
    IfOk-weaker c.closed_type.result _ _
    (λ r h. Holds-within _ r.0 _ (h c.requires.told.0 c.requires.told.1 c.requires.told.2))
    c.closed_type.ensures.made

pub returns-clause-held : goal.returns-clause-held
returns-clause-held c = IsHeld-Grows _ _ c.closed_type.ensures.grows c.requires.held

pub returns-clause-declared : goal.returns-clause-declared
returns-clause-declared c = declarations_of-Grows _ _ c.closed_type.ensures.grows c.requires.held
