use Rattle.std.proofs.Common.{◌∙◌, ◌++◌, ap, sym}
use Rattle.std.proofs.lemmas.Result.{on_ok_weaker}
use Rattle.hol_text.proofs.NameTexts.{differs, name_text-other}
use Rattle.hol_text.proofs.names.add_name.Goals as goal

pub returns : goal.returns
returns c =
    on_ok_weaker c.add_mangled.result
    (λ e. e ∙ ap (λ t. c.args.text.now.items ++ t) (sym (name_text-other c.args.name.now (differs _ _ _ c.is_single.ensures c.if-is_single.false))))
    c.add_mangled.ensures
