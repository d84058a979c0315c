use Rattle.std.proofs.Common.{ap, ◌∙◌, ◌++◌, ◌∷◌, []}
use Rattle.hol_term.specs.TableLaws.{Keeps-trans}
use Rattle.hol_rules.proofs.ConstantImage.{IfOk-held, constant-image, known-pair}
use Rattle.hol_rules.proofs.definitions.constant_of.Goals as goal

pub raw_subst-made-requires-clause-pairs : goal.raw_subst-made-requires-clause-pairs
raw_subst-made-requires-clause-pairs c =
    let pairs = c.deref.ensures.value ∙ c.in_ok-push.ensures.items ∙ ap (λ l. l ++ (c.in-Ok.variable, c.args.ty) ∷ []) c.new-pairs.ensures.items in
    known-pair c.args.terms.now c.general_constant.new.terms c.general_constant.ensures.keeps c.deref.result.now c.in-Ok.variable c.args.ty c.requires pairs

pub raw_subst-made-requires-clause-id : goal.raw_subst-made-requires-clause-id
raw_subst-made-requires-clause-id c = c.in-Ok-general_constant.ensures.made.known

pub returns-clause-made : goal.returns-clause-made
returns-clause-made c =
    let pairs = c.deref.ensures.value ∙ c.in_ok-push.ensures.items ∙ ap (λ l. l ++ (c.in-Ok.variable, c.args.ty) ∷ []) c.new-pairs.ensures.items in
    IfOk-held c.raw_subst-made.new.self _ _
    (constant-image c.args.terms.now c.general_constant.new.terms c.general_constant.ensures.keeps c.deref.result.now c.in-Ok.variable c.args.name.now
    c.args.ty c.in-Ok-general_constant.constant c.requires pairs c.in-Ok-general_constant.ensures.made.is)
    c.raw_subst-made.result c.raw_subst-made.ensures.known c.raw_subst-made.ensures.made

pub returns-clause-keeps : goal.returns-clause-keeps
returns-clause-keeps c = Keeps-trans c.general_constant.ensures.keeps c.raw_subst-made.ensures.keeps
