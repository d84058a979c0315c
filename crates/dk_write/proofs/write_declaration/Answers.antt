use Rattle.std.proofs.Common.{refl, take}
use Rattle.lp_spec.specs.ShortNames.{shortened_declaration}
use Rattle.holide_sig.specs.Modules.{declaration_in, declarations_of}
use Rattle.dk_write.proofs.GainedLaws.{writes_same, writes_stop, writes_then}
use Rattle.dk_write.proofs.DeclarationTexts.{declaration_parts}
use Rattle.dk_write.proofs.write_declaration.Goals as goal

pub returns-in_err-write_opening-clause-writes : goal.returns-in_err-write_opening-clause-writes
returns-in_err-write_opening-clause-writes g c =
    writes_same _ _ (declaration_parts (declarations_of c.args.source.now)
    (shortened_declaration (take c.args.before (declarations_of c.args.source.now)) (declaration_in c.args.source.now.table c.args.line.decl.now))
    c.args.line.bound _ refl)
    (writes_stop _ _ _ _ _ _ _ _ _ _ _ c.in_err-write_opening.was c.from_residual.ensures.0 c.write_opening.ensures)

pub returns-in_err-write_words-clause-writes : goal.returns-in_err-write_words-clause-writes
returns-in_err-write_words-clause-writes g c =
    writes_same _ _ (declaration_parts (declarations_of c.args.source.now)
    (shortened_declaration (take c.args.before (declarations_of c.args.source.now)) (declaration_in c.args.source.now.table c.args.line.decl.now))
    c.args.line.bound _ c.as_bytes.ensures)
    (writes_then _ _ _ _ _ _ _ _ _ _ _ _ _ _ c.in_ok-write_opening.was c.write_opening.ensures
    (writes_stop _ _ _ _ _ _ _ _ _ _ _ c.in_err-write_words.was c.from_residual-in_err-write_words.ensures.0 c.write_words.ensures))

pub returns-in_err-write_tree-clause-writes : goal.returns-in_err-write_tree-clause-writes
returns-in_err-write_tree-clause-writes g c =
    writes_same _ _ (declaration_parts (declarations_of c.args.source.now)
    (shortened_declaration (take c.args.before (declarations_of c.args.source.now)) (declaration_in c.args.source.now.table c.args.line.decl.now))
    c.args.line.bound _ c.as_bytes.ensures)
    (writes_then _ _ _ _ _ _ _ _ _ _ _ _ _ _ c.in_ok-write_opening.was c.write_opening.ensures
    (writes_then _ _ _ _ _ _ _ _ _ _ _ _ _ _ c.in_ok-write_words.was c.write_words.ensures
    (writes_stop _ _ _ _ _ _ _ _ _ _ _ c.in_err-write_tree.was c.from_residual-in_err-write_tree.ensures.0 c.write_tree.ensures.writes)))

pub returns-in_err-write_body-clause-writes : goal.returns-in_err-write_body-clause-writes
returns-in_err-write_body-clause-writes g c =
    writes_same _ _ (declaration_parts (declarations_of c.args.source.now)
    (shortened_declaration (take c.args.before (declarations_of c.args.source.now)) (declaration_in c.args.source.now.table c.args.line.decl.now))
    c.args.line.bound _ c.as_bytes.ensures)
    (writes_then _ _ _ _ _ _ _ _ _ _ _ _ _ _ c.in_ok-write_opening.was c.write_opening.ensures
    (writes_then _ _ _ _ _ _ _ _ _ _ _ _ _ _ c.in_ok-write_words.was c.write_words.ensures
    (writes_then _ _ _ _ _ _ _ _ _ _ _ _ _ _ c.in_ok-write_tree.was c.write_tree.ensures.writes
    (writes_stop _ _ _ _ _ _ _ _ _ _ _ c.in_err-write_body.was c.from_residual-in_err-write_body.ensures.0 c.write_body.ensures.writes))))

pub returns-clause-writes : goal.returns-clause-writes
returns-clause-writes g c =
    writes_same _ _ (declaration_parts (declarations_of c.args.source.now)
    (shortened_declaration (take c.args.before (declarations_of c.args.source.now)) (declaration_in c.args.source.now.table c.args.line.decl.now))
    c.args.line.bound _ c.as_bytes.ensures)
    (writes_then _ _ _ _ _ _ _ _ _ _ _ _ _ _ c.in_ok-write_opening.was c.write_opening.ensures
    (writes_then _ _ _ _ _ _ _ _ _ _ _ _ _ _ c.in_ok-write_words.was c.write_words.ensures
    (writes_then _ _ _ _ _ _ _ _ _ _ _ _ _ _ c.in_ok-write_tree.was c.write_tree.ensures.writes
    (writes_then _ _ _ _ _ _ _ _ _ _ _ _ _ _ c.in_ok-write_body.was c.write_body.ensures.writes
    c.write_words-2.ensures))))
