use Rattle.std.proofs.Common.{[], arith, refl, ◌∙◌}
use Rattle.std.proofs.lemmas.List.{length-map}
use Rattle.holide_sig.specs.Modules.{declaration_in, declarations_of}
use Rattle.dk_write.specs.LineLaws.{drop-line_at, drop-end}
use Rattle.dk_write.proofs.GainedLaws.{front_part, gained_all, gained_front, gained_handed, on_err}
use Rattle.dk_write.proofs.write.Goals as goal

pub returns-in_err-write_prelude-clause-err : goal.returns-in_err-write_prelude-clause-err
returns-in_err-write_prelude-clause-err g c = on_err _ (front_part _ _ [] _ _ _ refl c.in_err-write_prelude.ensures.err)

pub returns-in_err-write_decl-clause-err : goal.returns-in_err-write_decl-clause-err
returns-in_err-write_decl-clause-err g c =
    let m = declarations_of c.args.source.now in
    on_err _ (gained_front _ _ _ _ _ c.loop-i.invariant.text
    (front_part _ _ [] _ _ _ (drop-line_at m c.args.bounds.now c.loop-i.i) c.in_err-write_decl.ensures.err))

pub loop-i-preserved : goal.loop-i-preserved
loop-i-preserved g c =
    let m = declarations_of c.args.source.now in
    record {
      room = c.write_decl.ensures.room ∙ c.loop-i.invariant.room;
      text = gained_handed _ _ _ _ [] _ _ _ c.loop-i.invariant.text (drop-line_at m c.args.bounds.now c.loop-i.i) c.in_ok-write_decl.ensures.ok;
      later = omega (arith, c.loop-i.invariant.later, c.in_ok-write_decl.ensures.cause.later);
    }

pub returns-clause-ok : goal.returns-clause-ok
returns-clause-ok g c =
    let m = declarations_of c.args.source.now in
    gained_all _ _ _ _
    (drop-end m c.args.bounds.now c.loop-i.i
    (omega (arith, c.loop-i-test.false, c.requires.bounds, length-map c.args.source.now.decls (declaration_in c.args.source.now.table))))
    c.loop-i.invariant.text

pub write_decl-requires-clause-room : goal.write_decl-requires-clause-room
write_decl-requires-clause-room g c = rw c.loop-i.invariant.room c.requires.room
