use Rattle.article_lines.specs.WritingLaws.{writes_same, writes_stop, writes_then}
use Rattle.article_lines.proofs.NameTexts.{name-parts}
use Rattle.article_lines.proofs.lines.write_name.Goals as goal

pub returns-in_err-write_component : goal.returns-in_err-write_component
returns-in_err-write_component g c =
    writes_same _ _ (name-parts c.args.name.now c.component.result.now c.component.ensures)
    (writes_then _ _ _ _ _ _ _ _ _ _ _ c.in_ok-put.was c.put.ensures
    (writes_stop _ _ _ _ _ _ _ _ _ c.in_err-write_component.was c.from_residual-in_err-write_component.ensures.0 c.write_component.ensures))

pub returns-in_err-write_rest : goal.returns-in_err-write_rest
returns-in_err-write_rest g c =
    writes_same _ _ (name-parts c.args.name.now c.component.result.now c.component.ensures)
    (writes_then _ _ _ _ _ _ _ _ _ _ _ c.in_ok-put.was c.put.ensures
    (writes_then _ _ _ _ _ _ _ _ _ _ _ c.in_ok-write_component.was c.write_component.ensures
    (writes_stop _ _ _ _ _ _ _ _ _ c.in_err-write_rest.was c.from_residual-in_err-write_rest.ensures.0 c.write_rest.ensures)))

pub returns : goal.returns
returns g c =
    writes_same _ _ (name-parts c.args.name.now c.component.result.now c.component.ensures)
    (writes_then _ _ _ _ _ _ _ _ _ _ _ c.in_ok-put.was c.put.ensures
    (writes_then _ _ _ _ _ _ _ _ _ _ _ c.in_ok-write_component.was c.write_component.ensures
    (writes_then _ _ _ _ _ _ _ _ _ _ _ c.in_ok-write_rest.was c.write_rest.ensures c.put-2.ensures)))
