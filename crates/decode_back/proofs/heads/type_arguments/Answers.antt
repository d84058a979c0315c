use Rattle.std.proofs.Common.{◌<◌, ◌+◌, ◌∷◌, length, refl, ap, sym, subst, arith}
use Rattle.std.specs.Prelude.{IfSome}
use Rattle.hol_type.specs.declared.table.TypeId.{TypeId}
use Rattle.hol_type.specs.Tables.{pairs_at, ArePairsKnown}
use Rattle.hol_term.specs.TableLaws.{Keeps-refl, Keeps-trans}
use Rattle.lp_term.specs.Tables as lp
use Rattle.lp_term.specs.Tables.{tree_at, trees_at}
use Rattle.holide_sig.specs.Modules.{declarations_of}
use Rattle.decode_spec.specs.Decode.{type_of_tree}
use Rattle.decode_back.specs.Walks.{at_place, IsTypeFound}
use Rattle.decode_back.specs.TermWalks.{AreTaken}
use Rattle.decode_back.proofs.ArgumentLemmas.{pairs-kept, taken-none, taken-more, taken-few, taken-no_type, taken-all}
use Rattle.decode_back.proofs.heads.type_arguments.Goals as goal

pub loop-number-init : goal.loop-number-init
loop-number-init c = record {
  args = c.requires.args;
  pairs = subst (ArePairsKnown c.args.table.now.types) (sym c.new-pairs.ensures.items) (tt {0});
  keeps = Keeps-refl c.args.table.now;
  within = omega arith;
  taken = taken-none (declarations_of c.args.source.base.now) (at_place c.args.source.place) (trees_at c.args.source.base.now.table c.args.args.now)
      (pairs_at c.args.table.now.types c.new-pairs.result.items) (ap (pairs_at c.args.table.now.types) c.new-pairs.ensures.items);
}

pub loop-number-preserved : goal.loop-number-preserved
loop-number-preserved c =
    let known : lp.AreKnown c.args.source.base.now.table (c.in-Some.arg ∷ c.pop.new.self) =
    subst (lp.AreKnown c.args.source.base.now.table) c.in-Some.ensures.popped c.loop-number.invariant.args in
    record {
      args = known.1;
      pairs = subst (ArePairsKnown c.decode_type.new.table.types) (sym c.in_ok-push.ensures.items)
          (pairs-kept c.loop-number.table.types c.decode_type.new.table.types c.loop-number.pairs.items (c.in_ok-parameter_name.field-0, c.in-Some-2.ty)
          c.decode_type.ensures.keeps.types c.loop-number.invariant.pairs
          (subst (λ o. IfSome o (λ (x : TypeId). x.0 < length c.decode_type.new.table.types)) c.in-Some-2.is c.in_ok-ty.ensures.known));
      keeps = Keeps-trans c.loop-number.invariant.keeps c.decode_type.ensures.keeps;
      within = omega (arith, c.loop-number-test.true);
      taken = taken-more (declarations_of c.args.source.base.now) (at_place c.args.source.place) c.args.level c.loop-number.number (c.loop-number.number + 1)
          (trees_at c.args.source.base.now.table c.args.args.now) (trees_at c.args.source.base.now.table c.pop.new.self)
          (tree_at c.args.source.base.now.table c.in-Some.arg.0) c.loop-number.table.types c.decode_type.new.table.types c.decode_type.new.table
          c.loop-number.pairs.items c.push.new.self.items c.in_ok-parameter_name.field-0 c.in-Some-2.ty
          (subst (λ ids. AreTaken (declarations_of c.args.source.base.now) (at_place c.args.source.place) c.loop-number.number
          (trees_at c.args.source.base.now.table c.args.args.now) (trees_at c.args.source.base.now.table ids)
          (pairs_at c.loop-number.table.types c.loop-number.pairs.items)) c.in-Some.ensures.popped c.loop-number.invariant.taken)
          (subst (IsTypeFound c.args.level
          (type_of_tree (declarations_of c.args.source.base.now) (at_place c.args.source.place)
          (tree_at c.args.source.base.now.table c.in-Some.arg.0)) c.decode_type.new.table) c.in-Some-2.is c.in_ok-ty.ensures.decoded)
          refl c.decode_type.ensures.keeps.types c.loop-number.invariant.pairs c.in_ok-parameter_name.ensures c.in_ok-push.ensures.items refl;
    }

pub returns-in_default-clause-types : goal.returns-in_default-clause-types
returns-in_default-clause-types c =
    taken-few (declarations_of c.args.source.base.now) (at_place c.args.source.place) c.args.level c.loop-number.number c.args.count
    (trees_at c.args.source.base.now.table c.args.args.now) (trees_at c.args.source.base.now.table c.loop-number.args)
    (pairs_at c.loop-number.table.types c.loop-number.pairs.items) c.loop-number.invariant.taken
    (ap (trees_at c.args.source.base.now.table) c.in_default.ensures.popped) c.loop-number-test.true

pub returns-in_default-2-clause-types : goal.returns-in_default-2-clause-types
returns-in_default-2-clause-types c =
    taken-no_type (declarations_of c.args.source.base.now) (at_place c.args.source.place) c.args.level c.loop-number.number c.args.count
    (trees_at c.args.source.base.now.table c.args.args.now) (trees_at c.args.source.base.now.table c.pop.new.self)
    (tree_at c.args.source.base.now.table c.in-Some.arg.0)
    (pairs_at c.loop-number.table.types c.loop-number.pairs.items) c.decode_type.new.table
    (subst (λ ids. AreTaken (declarations_of c.args.source.base.now) (at_place c.args.source.place) c.loop-number.number
    (trees_at c.args.source.base.now.table c.args.args.now) (trees_at c.args.source.base.now.table ids)
    (pairs_at c.loop-number.table.types c.loop-number.pairs.items)) c.in-Some.ensures.popped c.loop-number.invariant.taken)
    (subst (IsTypeFound c.args.level
    (type_of_tree (declarations_of c.args.source.base.now) (at_place c.args.source.place) (tree_at c.args.source.base.now.table c.in-Some.arg.0))
    c.decode_type.new.table) c.in_default-2.is c.in_ok-ty.ensures.decoded) c.loop-number-test.true

pub returns-clause-types : goal.returns-clause-types
returns-clause-types c =
    taken-all (declarations_of c.args.source.base.now) (at_place c.args.source.place) c.loop-number.number c.args.count
    (trees_at c.args.source.base.now.table c.args.args.now) (trees_at c.args.source.base.now.table c.loop-number.args)
    (pairs_at c.loop-number.table.types c.loop-number.pairs.items)
    c.loop-number.invariant.taken (omega (arith, c.loop-number.invariant.within, c.loop-number-test.false))

pub returns-in_default-clause-keeps : goal.returns-in_default-clause-keeps
returns-in_default-clause-keeps c = c.loop-number.invariant.keeps

pub returns-in_err-ty-clause-keeps : goal.returns-in_err-ty-clause-keeps
returns-in_err-ty-clause-keeps c = Keeps-trans c.loop-number.invariant.keeps c.decode_type.ensures.keeps

pub returns-in_default-2-clause-keeps : goal.returns-in_default-2-clause-keeps
returns-in_default-2-clause-keeps c = Keeps-trans c.loop-number.invariant.keeps c.decode_type.ensures.keeps

pub returns-in_err-parameter_name-clause-keeps : goal.returns-in_err-parameter_name-clause-keeps
returns-in_err-parameter_name-clause-keeps c = Keeps-trans c.loop-number.invariant.keeps c.decode_type.ensures.keeps

pub returns-in_err-push-clause-keeps : goal.returns-in_err-push-clause-keeps
returns-in_err-push-clause-keeps c = Keeps-trans c.loop-number.invariant.keeps c.decode_type.ensures.keeps

pub returns-clause-keeps : goal.returns-clause-keeps
returns-clause-keeps c = c.loop-number.invariant.keeps

pub returns-in_default-2-clause-args : goal.returns-in_default-2-clause-args
returns-in_default-2-clause-args c = (subst (lp.AreKnown c.args.source.base.now.table) c.in-Some.ensures.popped c.loop-number.invariant.args).1

pub returns-clause-known : goal.returns-clause-known
returns-clause-known c = c.loop-number.invariant.pairs

pub returns-clause-args : goal.returns-clause-args
returns-clause-args c = c.loop-number.invariant.args

pub decode_type-requires-clause-held : goal.decode_type-requires-clause-held
decode_type-requires-clause-held c = c.requires.source.held

pub decode_type-requires-clause-few : goal.decode_type-requires-clause-few
decode_type-requires-clause-few c = c.requires.source.few
