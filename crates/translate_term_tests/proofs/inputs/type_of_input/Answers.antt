use Rattle.std.proofs.lemmas.Result.{IfOk-weaker}
use Rattle.lp_term.specs.TableLaws.{Keeps-trans}
use Rattle.translate_term_tests.proofs.InputLaws.{input_type_held}
use Rattle.translate_term_tests.proofs.inputs.type_of_input.Goals as goal

pub returns-clause-keeps : goal.returns-clause-keeps
returns-clause-keeps c =
    IfOk-weaker c.node-5.result _ _
    (λ id h. Keeps-trans c.node.ensures.keeps
    (Keeps-trans c.node-2.ensures.keeps (Keeps-trans c.node-3.ensures.keeps (Keeps-trans c.node-4.ensures.keeps c.node-5.ensures.keeps))))
    c.node-5.ensures.made

pub returns-clause-made : goal.returns-clause-made
returns-clause-made c =
    IfOk-weaker c.node-5.result _ _
    (λ id h. input_type_held c.node.new.self c.node-2.new.self c.node-3.new.self c.node-4.new.self c.node-5.new.self c.in_ok-simple.simple.0 c.in_ok-term.term.0
    c.in_ok-v.v.0 c.in_ok-terms.terms.0 id.0
    c.node-2.ensures.keeps c.node-3.ensures.keeps c.node-4.ensures.keeps c.in_ok-simple.ensures.made c.in_ok-term.ensures.made c.in_ok-v.ensures.made
    c.in_ok-terms.ensures.made h)
    c.node-5.ensures.made
