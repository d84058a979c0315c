use Rattle.std.proofs.Common.{◌∙◌, ap}
use Rattle.dk_read.specs.declared.terms.Head.TheVariants as head
use Rattle.dk_read.specs.States.{tree_in}
use Rattle.dk_read.proofs.Declared.{becomes_as, symbol_may, symbol_declares, body_may, body_declares}
use Rattle.dk_read.proofs.Kept.{kept_on}
use Rattle.dk_read.proofs.parser.Parser.declare.Goals as goal

pub push-requires-clause-follows : goal.push-requires-clause-follows
push-requires-clause-follows c =
    let old = c.args.self.now in
    let new = c.whole.new.self in
    symbol_may old new c.args.body c.in-Some.tree c.requires.ordered (c.in_ok-tree.ensures.is ∙ ap (tree_in new.module.table) c.in-Some.is)
    c.in_ok-tree.ensures.same.0 c.in_ok-tree.ensures.same.1
    c.in-TypeOf.number c.in_ok-name-in-Symbol.name (c.in-TypeOf.is ∙ ap (λ f. head.TypeOf f c.in-TypeOf.number) c.in-Symbol.is) c.in_ok-name-in-Symbol.ensures

pub push-requires-in-BodyOf-clause-follows : goal.push-requires-in-BodyOf-clause-follows
push-requires-in-BodyOf-clause-follows c =
    let old = c.args.self.now in
    let new = c.whole.new.self in
    body_may old new c.args.body c.in-Some.tree c.requires.ordered (c.in_ok-tree.ensures.is ∙ ap (tree_in new.module.table) c.in-Some.is)
    c.in_ok-tree.ensures.same.0 c.in_ok-tree.ensures.same.1
    c.in-BodyOf.form c.in-BodyOf.number c.in-BodyOf.ty c.in_ok-name-in-BodyOf.name c.in-BodyOf.is c.in_ok-name-in-BodyOf.ensures

pub returns-in_ok-name-in-Symbol-clause-becomes : goal.returns-in_ok-name-in-Symbol-clause-becomes
returns-in_ok-name-in-Symbol-clause-becomes c =
    let old = c.args.self.now in
    let new = c.whole.new.self in
    becomes_as _ _ c.push.new.self c.push.result
    (symbol_declares old new c.args.body c.in-Some.tree c.requires.ordered (c.in_ok-tree.ensures.is ∙ ap (tree_in new.module.table) c.in-Some.is)
    c.in_ok-tree.ensures.same.0 c.in_ok-tree.ensures.same.1
    c.in-TypeOf.number c.in_ok-name-in-Symbol.name c.args.place (c.in-TypeOf.is ∙ ap (λ f. head.TypeOf f c.in-TypeOf.number) c.in-Symbol.is)
    c.in_ok-name-in-Symbol.ensures)
    c.push.ensures.becomes

pub returns-in_ok-name-in-BodyOf-clause-becomes : goal.returns-in_ok-name-in-BodyOf-clause-becomes
returns-in_ok-name-in-BodyOf-clause-becomes c =
    let old = c.args.self.now in
    let new = c.whole.new.self in
    becomes_as _ _ c.push-in-BodyOf.new.self c.push-in-BodyOf.result
    (body_declares old new c.args.body c.in-Some.tree c.requires.ordered (c.in_ok-tree.ensures.is ∙ ap (tree_in new.module.table) c.in-Some.is)
    c.in_ok-tree.ensures.same.0 c.in_ok-tree.ensures.same.1
    c.in-BodyOf.form c.in-BodyOf.number c.in-BodyOf.ty c.in_ok-name-in-BodyOf.name c.args.place c.in-BodyOf.is c.in_ok-name-in-BodyOf.ensures)
    c.push-in-BodyOf.ensures.becomes

pub returns-in_ok-name-in-Symbol-clause-keeps : goal.returns-in_ok-name-in-Symbol-clause-keeps
returns-in_ok-name-in-Symbol-clause-keeps c = kept_on c.push.result c.push.new.self.module.table c.in_ok-tree.ensures.keeps c.push.ensures.keeps

pub returns-in_ok-name-in-BodyOf-clause-keeps : goal.returns-in_ok-name-in-BodyOf-clause-keeps
returns-in_ok-name-in-BodyOf-clause-keeps c = kept_on c.push-in-BodyOf.result c.push-in-BodyOf.new.self.module.table c.in_ok-tree.ensures.keeps
    c.push-in-BodyOf.ensures.keeps
