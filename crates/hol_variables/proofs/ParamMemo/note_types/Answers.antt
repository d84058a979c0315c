use Rattle.std.proofs.Common.{◌≡◌, ◌<◌, length, ap, arith, subst, sym}
use Rattle.hol_spec.specs.Types.{variable_places}
use Rattle.hol_type.specs.Tables.{tree_at}
use Rattle.hol_variables.specs.Lists.{Tells}
use Rattle.hol_variables.specs.Noted.{AreTypesNoted}
use Rattle.hol_variables.specs.NotedLaws.{KeepsLists-refl}
use Rattle.hol_variables.specs.Variables.{AreNames}
use Rattle.hol_variables.proofs.Gathered.{AreTypesNoted-kept, AreTypesNoted-pushed, AreTermsNoted-kept}
use Rattle.hol_variables.proofs.ParamMemo.note_types.Goals as goal

pub returns-in_err-list-clause-noted : goal.returns-in_err-list-clause-noted
returns-in_err-list-clause-noted c =
    let trees = c.args.terms.now in
    let memo = c.loop-types.self in
    let keeps = c.in_err-list.ensures.keeps in
    record {
      types = AreTypesNoted-kept trees.types memo.names c.names_of.new.lists memo.types.items keeps c.loop-types.invariant.types;
      terms = AreTermsNoted-kept trees memo.names c.names_of.new.lists memo.variables memo.variables memo.terms.items keeps (KeepsLists-refl memo.variables)
          c.loop-types.invariant.terms;
    }

pub returns-in_err-push-clause-noted : goal.returns-in_err-push-clause-noted
returns-in_err-push-clause-noted c =
    let trees = c.args.terms.now in
    let memo = c.loop-types.self in
    let keeps = c.in_ok-list.ensures.keeps in
    record {
      types = subst (AreTypesNoted trees.types c.names_of.new.lists) (sym c.in_err-push.ensures.items)
          (AreTypesNoted-kept trees.types memo.names c.names_of.new.lists memo.types.items keeps c.loop-types.invariant.types);
      terms = AreTermsNoted-kept trees memo.names c.names_of.new.lists memo.variables memo.variables memo.terms.items keeps (KeepsLists-refl memo.variables)
          c.loop-types.invariant.terms;
    }

pub loop-types-preserved : goal.loop-types-preserved
loop-types-preserved c =
    let trees = c.args.terms.now in
    let memo = c.loop-types.self in
    let list = c.in_ok-list.list in
    let new = c.names_of.new.lists in
    let keeps = c.in_ok-list.ensures.keeps in
    let count = ap length c.types-types.ensures.types in
    let at : c.len-in-loop-types.result ≡ length memo.types.items = omega (arith, c.len-in-loop-types.ensures, memo.types.ok.0) in
    let below : length memo.types.items < length trees.types =
    omega (arith, c.loop-types-test.true, c.len.ensures, c.count.ensures.count, count, memo.types.ok.0) in
    let told = subst (λ ts. Tells (AreNames ts (variable_places (tree_at ts c.len-in-loop-types.result))) new list) c.types-types.ensures.types
    c.in_ok-list.ensures.names in
    record {
      types =
          AreTypesNoted-pushed trees.types new memo.types.items c.push.new.self.items list below c.in_ok-push.ensures.items
          (AreTypesNoted-kept trees.types memo.names new memo.types.items keeps c.loop-types.invariant.types)
          (subst (λ i. Tells (AreNames trees.types (variable_places (tree_at trees.types i))) new list) at told);
      terms = AreTermsNoted-kept trees memo.names new memo.variables memo.variables memo.terms.items keeps (KeepsLists-refl memo.variables)
          c.loop-types.invariant.terms;
    }
