use Rattle.std.proofs.Common.{◌≡◌, ◌<◌, ◌++◌, ◌∷◌, [], length, ap, arith, subst, sym, ◌∙◌}
use Rattle.hol_variables.specs.Noted.{AreTypesNoted, IsOwn}
use Rattle.hol_variables.proofs.Gathered.{AreNoted-kept, AreTypesNoted-kept, AreTermsNoted-kept, AreTermsNoted-pushed}
use Rattle.hol_variables.proofs.ParamMemo.note_terms.Goals as goal

pub returns-in_err-own-clause-noted : goal.returns-in_err-own-clause-noted
returns-in_err-own-clause-noted c =
    let e = c.in_err-own.ensures in
    AreNoted-kept c.args.terms.now c.loop-self.self c.own.new.self c.loop-self.invariant.0 e.names e.variables e.types e.terms

pub returns-in_err-packed-clause-noted : goal.returns-in_err-packed-clause-noted
returns-in_err-packed-clause-noted c =
    let e = c.in_ok-own.ensures in
    AreNoted-kept c.args.terms.now c.loop-self.self c.own.new.self c.loop-self.invariant.0 e.names e.variables e.types e.terms

pub returns-in_err-push-clause-noted : goal.returns-in_err-push-clause-noted
returns-in_err-push-clause-noted c =
    let e = c.in_ok-own.ensures in
    AreNoted-kept c.args.terms.now c.loop-self.self _ c.loop-self.invariant.0 e.names e.variables e.types (c.in_err-push.ensures.items ∙ e.terms)

pub loop-self-preserved : goal.loop-self-preserved
loop-self-preserved c =
    let trees = c.args.terms.now in
    let memo = c.loop-self.self in
    let new = c.own.new.self in
    let packed = c.in_ok-packed.packed in
    let e = c.in_ok-own.ensures in
    let noted = c.loop-self.invariant.0 in
    let at : c.len-in-loop-self.result ≡ length memo.terms.items = omega (arith, c.len-in-loop-self.ensures, memo.terms.ok.0) in
    let below : length memo.terms.items < length trees.terms = omega (arith, c.loop-self-test.true, c.len.ensures, c.count.ensures, memo.terms.ok.0) in (
      record {
        types = subst (AreTypesNoted trees.types new.names) (sym e.types)
            (AreTypesNoted-kept trees.types memo.names new.names memo.types.items e.names noted.types);
        terms =
            AreTermsNoted-pushed trees new.names new.variables memo.terms.items c.push.new.self.items packed below
            (c.in_ok-push.ensures.items ∙ ap (λ l. l ++ packed ∷ []) e.terms)
            (AreTermsNoted-kept trees memo.names new.names memo.variables new.variables memo.terms.items e.names e.variables noted.terms)
            (subst (IsOwn trees new.names new.variables (length memo.terms.items)) (sym c.in_ok-packed.ensures)
            (subst (λ i. IsOwn trees new.names new.variables i c.in_ok-own.own) at e.own));
      },
      ap length e.types ∙ c.loop-self.invariant.1,
    )
