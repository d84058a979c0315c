use Rattle.std.proofs.Common.{◌∙◌, ap, Some, None}
use Rattle.std.proofs.lemmas.Result.{IfOk-weaker}
use Rattle.hol_term.specs.TableLaws.{Keeps-trans}
use Rattle.hol_term.proofs.ImageLaws.{found_put, free_put, free_left}
use Rattle.hol_term.proofs.TermTable.free_image.Goals as goal

pub type_image-requires-clause-pairs : goal.type_image-requires-clause-pairs
type_image-requires-clause-pairs c = c.requires.pairs.known_types

pub returns-in-Some-clause-known : goal.returns-in-Some-clause-known
returns-in-Some-clause-known c =
    let put = c.in_ok-put.ensures in
    (found_put c.args.self.now c.type_image.new.self c.type_image.ensures.keeps c.args.putting.now.types.now c.args.putting.now.terms.now c.requires.pairs
    put.one_each c.args.name c.in_ok-put.put put.known (Some c.in-Some.id) c.in-Some.ensures).0

pub returns-in-Some-clause-made : goal.returns-in-Some-clause-made
returns-in-Some-clause-made c =
    let k = c.type_image.ensures.keeps in
    let put = c.in_ok-put.ensures in
    let types = c.args.putting.now.types.now in
    let terms = c.args.putting.now.terms.now in
    free_put c.args.self.now c.type_image.new.self k types terms c.requires.pairs c.args.name c.args.ty c.in_ok-put.put put.made c.in-Some.id
    (found_put c.args.self.now c.type_image.new.self k types terms c.requires.pairs put.one_each c.args.name c.in_ok-put.put put.known (Some c.in-Some.id)
    c.in-Some.ensures)

pub returns-in-None-clause-made : goal.returns-in-None-clause-made
returns-in-None-clause-made c =
    let k = c.type_image.ensures.keeps in
    let put = c.in_ok-put.ensures in
    let types = c.args.putting.now.types.now in
    let terms = c.args.putting.now.terms.now in
    let left = free_left c.args.self.now c.type_image.new.self k types terms c.requires.pairs c.args.name c.args.ty c.in_ok-put.put put.made
    (found_put c.args.self.now c.type_image.new.self k types terms c.requires.pairs put.one_each c.args.name c.in_ok-put.put put.known None c.in-None.ensures)
    in
    IfOk-weaker c.add.result _ _ (λ id h. h ∙ ap Some left) c.add.ensures.made

pub returns-in-None-clause-keeps : goal.returns-in-None-clause-keeps
returns-in-None-clause-keeps c = Keeps-trans c.type_image.ensures.keeps c.add.ensures.keeps
