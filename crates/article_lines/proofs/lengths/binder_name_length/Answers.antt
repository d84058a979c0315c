use Rattle.std.proofs.Common.{◌∙◌, sym, arith}
use Rattle.article_lines.proofs.BinderTexts.{binder-length}
use Rattle.article_lines.proofs.lengths.binder_name_length.Goals as goal

pub returns : goal.returns
returns c =
    let e = binder-length c.args.number c.args.depth (omega arith) (omega arith) in
    omega (arith, e, c.digits.ensures.is, c.digits-2.ensures.is)
