use Rattle.std.proofs.Common.{◌≡◌, ◌∙◌, ◌+◌, drop, length, refl, sym, ap, subst, arith, []}
use Rattle.std.proofs.lemmas.List.{length-map}
use Rattle.lp_spec.specs.ShortNames.{shortened_after}
use Rattle.lp_spec.specs.Text.{declarations_text}
use Rattle.lp_term.specs.TableLaws.{Keeps-refl, Keeps-trans}
use Rattle.holide_sig.specs.Modules.{declaration_in, declarations_of}
use Rattle.dk_read.specs.Shared.{reading_over}
use Rattle.dk_write.specs.Lines.{line_at, text_before}
use Rattle.dk_write.specs.Shallow.{AreWithin}
use Rattle.bridge_verify.proofs.Handed.{fed-first, reads-line, fed-line, fed-written}
use Rattle.bridge_verify.proofs.Stays.{stays-declared, stays-held, stays-within}
use Rattle.bridge_verify.proofs.checking.hand_all.Goals as goal

pub loop-i-init : goal.loop-i-init
loop-i-init c =
    let t = c.args.translation.now in
    record {
      going = c.requires.going;
      fed = fed-first (declarations_of t.module) t.bounds.items (reading_over c.args.reader.now t.module.table) c.requires.fed;
      keeps = Keeps-refl t.module.table;
      decls = refl;
      bounds = refl;
      counts = refl;
      room = refl;
      empty = c.requires.empty;
    }

pub line_into-requires : goal.line_into-requires
line_into-requires c =
    let t = c.args.translation.now in
    let u = c.loop-i.translation in
    let l = c.loop-i.invariant in
    record {
      held = stays-held t.module u.module l.keeps l.decls c.requires.held;
      bounds = ap (λ bounds. length bounds.items) l.bounds ∙ c.requires.bounds ∙ ap length (sym l.decls);
      room = subst (λ most. AreWithin most u.module.table u.module.decls) (sym l.room)
          (stays-within t.module u.module l.keeps l.decls c.requires.held c.args.path.now.room c.requires.room);
      declared = let same = ap (λ bounds. length bounds.items) l.bounds in omega (arith, same, c.loop-i-test.true, c.loop-i.auto.i-end);
      empty = l.empty;
    }

pub hand-requires : goal.hand-requires
hand-requires c =
    let t = c.args.translation.now in
    let u = c.loop-i.translation in
    let l = c.loop-i.invariant in
    let d = declarations_of t.module in
    let bounds = t.bounds.items in
    let i = c.loop-i.i in
    let line = c.in_ok-line_into.ensures.text ∙ ap (λ m. line_at m u.bounds.items i) (stays-declared t.module u.module l.keeps l.decls c.requires.held)
    ∙ ap (λ bounds. line_at d bounds.items i) l.bounds in
    record {
      going = l.going;
      reads = (
        text_before d bounds i,
        declarations_text d (drop (i + 1) (shortened_after [] d)) (drop (i + 1) bounds),
        c.requires.reads.0,
        l.fed,
        reads-line d bounds i c.line_into.new.text.contents c.requires.reads.0 line c.requires.reads.1,
      );
    }

pub loop-i-preserved : goal.loop-i-preserved
loop-i-preserved c =
    let t = c.args.translation.now in
    let u = c.loop-i.translation in
    let l = c.loop-i.invariant in
    let d = declarations_of t.module in
    let bounds = t.bounds.items in
    let i = c.loop-i.i in
    let line = c.in_ok-line_into.ensures.text ∙ ap (λ m. line_at m u.bounds.items i) (stays-declared t.module u.module l.keeps l.decls c.requires.held)
    ∙ ap (λ bounds. line_at d bounds.items i) l.bounds in
    record {
      going = c.in_ok-hand.ensures.going;
      fed = fed-line d bounds (reading_over c.loop-i.reader u.module.table) (reading_over c.hand.new.reader c.hand.new.table) i
          c.line_into.new.text.contents line l.fed c.in_ok-hand.ensures.feeds;
      keeps = Keeps-trans l.keeps c.in_ok-hand.ensures.keeps;
      decls = l.decls;
      bounds = l.bounds;
      counts = l.counts;
      room = c.line_into.ensures.room ∙ l.room;
      empty = c.hand.ensures.empty;
    }

pub returns-clause-fed : goal.returns-clause-fed
returns-clause-fed c =
    let t = c.args.translation.now in
    let d = declarations_of t.module in
    let i = c.loop-i.i in
    let count : i ≡ length t.bounds.items = omega (arith, c.loop-i-test.false, c.loop-i.auto.i-end) in
    let all : i ≡ length d = omega (arith, count, c.requires.bounds, length-map t.module.decls (declaration_in t.module.table)) in
    fed-written d t.bounds.items (reading_over c.loop-i.reader c.loop-i.translation.module.table) i all count c.loop-i.invariant.fed
