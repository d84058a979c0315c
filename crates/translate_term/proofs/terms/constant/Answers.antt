use Rattle.std.proofs.Common.{◌∙◌, ap, Some}
use Rattle.std.proofs.lemmas.Result.{IfOk-weaker}
use Rattle.hol_type.specs.Tables as type
use Rattle.translate_term.specs.GrowLaws.{Grows-trans, IsTypeMemo-Keeps}
use Rattle.translate_term.proofs.EndsLaws.{OnOk-always}
use Rattle.translate_term.proofs.LeafLaws.{constant-typed, constant-unlifted}
use Rattle.translate_term.proofs.terms.constant.Goals as goal

pub constant_of-requires : goal.constant_of-requires
constant_of-requires c =
    let made = c.in_ok-tree.ensures.made in (
      _,
      _,
      _,
      constant-typed c.requires.0 _ _ _ _ _ c.args.name.now c.args.ty c.requires.1 c.requires.2 c.in_ok-tree.ensures.grows c.in_ok-tree.tree
          (made c.requires.0 c.requires.1),
    )

pub returns-clause-made : goal.returns-clause-made
returns-clause-made c =
    let made = c.in_ok-tree.ensures.made in
    IfOk-weaker c.constant_of.result _ _
    (λ r h given s t.
    h _ _ _ (constant-typed given _ _ _ _ _ c.args.name.now c.args.ty s t c.in_ok-tree.ensures.grows c.in_ok-tree.tree (made given s))
    ∙ ap Some (constant-unlifted given c.args.name.now (type.tree_at c.args.source.table.now.types c.args.ty.0)))
    c.constant_of.ensures.made

pub returns-clause-noted : goal.returns-clause-noted
returns-clause-noted c =
    let noted = c.in_ok-tree.ensures.noted in
    OnOk-always c.constant_of.result (λ given s. IsTypeMemo-Keeps c.constant_of.ensures.grows.table given _ _ (noted given s))

pub returns-clause-grows : goal.returns-clause-grows
returns-clause-grows c = Grows-trans c.in_ok-tree.ensures.grows c.constant_of.ensures.grows
