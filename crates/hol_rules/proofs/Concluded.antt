-- A rule that ends.
use Rattle.std.proofs.Common.{◌≡◌, ℕ, refl, sym, ap, subst, ◌∙◌, List, [], ◌∷◌, ◌++◌, length, map, Result, Ok, Err, IfOk, OnErr}
use Rattle.std.specs.Result.{IsErrAnd}
use Rattle.common.specs.declared.faults.Fault.{Fault}
use Rattle.common.specs.declared.faults.Fault.TheVariants.{Memory, Refused}
use Rattle.common.specs.declared.faults.Kind.{Kind}
use Rattle.hol_spec.specs.Proofs.{Made, Step, steps_of, IsStep}
use Rattle.hol_spec.specs.declared.StepKind.{StepKind}
use Rattle.hol_term.specs.Tables.{Keeps}
use Rattle.hol_term.specs.TableLaws.{Keeps-refl, Keeps-trans}
use Rattle.article_spec.specs.Results.{◌>>=◌, ◌>>◌, Fails}
use Rattle.article_spec.specs.Conditions.{sequent_in_limits}
use Rattle.sequent.specs.declared.Sequent.{Sequent}
use Rattle.sequent.specs.Sequents.{sequent_at, IsKnown}
use Rattle.hol_rules.specs.declared.made.Parameters.{Parameters}
use Rattle.hol_rules.specs.declared.made.Step.{Step as OneStep}
use Rattle.hol_rules.specs.Inferences.{Inferred}
use Rattle.hol_rules.specs.Kept.{Kept, Grows, step_count}
use Rattle.hol_rules.specs.Views.{new_step, AreParametersKnown, IsStepKnown}
use Rattle.hol_spec.specs.Symbols.{Symbol}
use Rattle.hol_rules.specs.Conclusions.{Concludes, Defines, limited}
use Rattle.std.proofs.Math.Path.{ap₂}

pub Grows-refl : (k : Kept) → Grows k k
Grows-refl k = record { trees = Keeps-refl k.trees; made = refl }

-- what changed nothing made nothing
pub Grows-same : {old mid : Kept} → mid ≡ old → Grows old mid
Grows-same {old = old} e = subst (Grows old) (sym e) (Grows-refl old)

pub Grows-trans : {a b c : Kept} → Grows a b → Grows b c → Grows a c
Grows-trans g h = record { trees = Keeps-trans g.trees h.trees; made = h.made ∙ g.made }

fails-limited : (rule : Result Step Kind) (fault : Fault) → Fails fault rule → Fails fault (limited rule)
fails-limited rule Memory h = tt
fails-limited rule (Refused kind) h = ap limited h

-- what fails first is what fails
pub fails-row : {A B : Type 0} (first : Result A Kind) (more : A → Result B Kind) (fault : Fault) → Fails fault first → Fails fault (first >>= more)
fails-row first more Memory h = tt
fails-row first more (Refused kind) h = ap (λ r. r >>= more) h

pub fails-both : {A B : Type 0} (first : Result A Kind) (more : Result B Kind) (fault : Fault) → Fails fault first → Fails fault (first >> more)
fails-both first more Memory h = tt
fails-both first more (Refused kind) h = ap (λ r. r >> more) h

-- a condition fails, where at most types and terms came
pub refuses : {old mid : Kept} → Grows old mid → (rule : Result Step Kind) (fault : Fault) → Fails fault rule → Concludes old rule mid (Err fault)
refuses g rule fault h = record { concluded = tt; refused = fails-limited rule fault h; unchanged = g.made; keeps = g.trees }

-- the same of an answer that hands on a fault
pub refused : {old mid : Kept} → Grows old mid → (rule : Result Step Kind) (r : Result ℕ Fault) (fault : Fault) → IsErrAnd r (λ e. e ≡ fault) → Fails fault rule
    → Concludes old rule mid r
refused g rule (Ok v) fault h f = absurd h
refused g rule (Err e) fault h f = refuses g rule e (subst (λ w. Fails w rule) (sym h) f)

-- memory runs out, where at most types and terms came
pub stopped : {old mid : Kept} → Grows old mid → (rule : Result Step Kind) (r : Result ℕ Fault) → IsErrAnd r (λ fault. fault ≡ Memory)
    → Concludes old rule mid r
stopped g rule r h = refused g rule r Memory h tt

-- the conditions hold, and the step is concluded after types and terms came
pub concludes : {old mid : Kept} → Grows old mid → (rule : Result Step Kind) (x : Step) → rule ≡ Ok x → (new : Kept) (result : Result ℕ Fault)
    → Concludes mid (Ok x) new result → Concludes old rule new result
concludes {old = old} {mid = mid} g rule x is new result h = subst (λ r. Concludes old r new result) (sym is) (record {
  concluded = subst (λ made. IfOk result (λ id. (id ≡ length (steps_of made)) × ((y : Step) × (limited (Ok x) ≡ Ok y) × (new.made ≡ made ++ Made.step y ∷ []))))
      g.made h.concluded;
  refused = h.refused;
  unchanged = subst (λ made. OnErr result (new.made ≡ made)) g.made h.unchanged;
  keeps = Keeps-trans g.trees h.keeps;
})

-- a step whose sequent passes a limit
pub refuses-step : {old mid : Kept} → Grows old mid → (x : Step) (fault : Fault) → Fails fault (sequent_in_limits x.sequent)
    → Concludes old (Ok x) mid (Err fault)
refuses-step g x fault h = record { concluded = tt; refused = go fault h; unchanged = g.made; keeps = g.trees }
  where
    go : (f : Fault) → Fails f (sequent_in_limits x.sequent) → Fails f (limited (Ok x))
    go Memory e = tt
    go (Refused kind) e = ap (λ r. r >> Ok x) e

-- a step within the limits that is kept
pub concludes-step : (old new : Kept) (x : Step) (id : ℕ) → sequent_in_limits x.sequent ≡ Ok tt → id ≡ step_count old → new
    ≡ record old { made = old.made ++ Made.step x ∷ [] } → Concludes old (Ok x) new (Ok id)
concludes-step old new x id e n is = record {
  concluded = (n, (x, ap (λ r. r >> Ok x) e, ap (λ (k : Kept). k.made) is));
  refused = tt;
  unchanged = tt;
  keeps = subst (λ (k : Kept). Keeps old.trees k.trees) (sym is) (Keeps-refl old.trees);
}

-- the same of an answer that hands on a fault
pub refused-step : {old mid : Kept} → Grows old mid → (x : Step) (r : Result ℕ Fault) (fault : Fault) → IsErrAnd r (λ e. e ≡ fault)
    → Fails fault (sequent_in_limits x.sequent) → Concludes old (Ok x) mid r
refused-step g x (Ok v) fault h f = absurd h
refused-step g x (Err e) fault h f = refuses-step g x e (subst (λ w. Fails w (sequent_in_limits x.sequent)) (sym h) f)

-- a step of numbers, after what changed nothing
pub step-known : (old mid : Kept) → mid ≡ old → (x : OneStep) → AreParametersKnown old.trees x.parameters → IsKnown old.trees x.sequent
    → IsStepKnown mid.trees x
step-known old mid same x p s = subst (λ (k : Kept). IsStepKnown k.trees x) (sym same) (record { parameters = p; sequent = s })

module _ (old mid : Kept) (same : mid ≡ old) (kind : StepKind) (premises : List ℕ) (i : Inferred) (by : i ≡ record { kind = kind; premises = premises })
    (p : Parameters) (s : Sequent) where
  pub inferred-follows : IsStep old.made (new_step old.trees kind premises p s) → IsStep mid.made (new_step mid.trees i.kind i.premises p s)
  inferred-follows f = subst (λ (k : Kept). IsStep k.made (new_step k.trees i.kind i.premises p s)) (sym same)
      (subst (λ (j : Inferred). IsStep old.made (new_step old.trees j.kind j.premises p s)) (sym by) f)

  pub inferred-concludes : (new : Kept) (id : ℕ) → sequent_in_limits (sequent_at old.trees s) ≡ Ok tt → id ≡ step_count mid → new
      ≡ record mid { made = mid.made ++ Made.step (new_step mid.trees i.kind i.premises p s) ∷ [] }
      → Concludes old (Ok (new_step old.trees kind premises p s)) new (Ok id)
  inferred-concludes new id e n is =
      concludes-step old new (new_step old.trees kind premises p s) id e (n ∙ ap step_count same)
      (is ∙ ap₂ (λ (k : Kept) (j : Inferred). record k { made = k.made ++ Made.step (new_step k.trees j.kind j.premises p s) ∷ [] }) same by)

-- the same of a definition
module _ (symbols : List Symbol) where
  pub refuses-definition : {old mid : Kept} → Grows old mid → (rule : Result Step Kind) (fault : Fault) → Fails fault rule
      → Defines old symbols rule mid (Err fault)
  refuses-definition g rule fault h = record { concluded = tt; refused = fails-limited rule fault h; unchanged = g.made; keeps = g.trees }

  pub refused-definition : {old mid : Kept} → Grows old mid → (rule : Result Step Kind) (r : Result ℕ Fault) (fault : Fault) → IsErrAnd r (λ e. e ≡ fault)
      → Fails fault rule → Defines old symbols rule mid r
  refused-definition g rule (Ok v) fault h f = absurd h
  refused-definition g rule (Err e) fault h f = refuses-definition g rule e (subst (λ w. Fails w rule) (sym h) f)

  pub stopped-definition : {old mid : Kept} → Grows old mid → (rule : Result Step Kind) (r : Result ℕ Fault) → IsErrAnd r (λ fault. fault ≡ Memory)
      → Defines old symbols rule mid r
  stopped-definition g rule r h = refused-definition g rule r Memory h tt

  pub concludes-definition : {old mid : Kept} → Grows old mid → (rule : Result Step Kind) (x : Step) → rule ≡ Ok x → (new : Kept) (result : Result ℕ Fault)
      → Defines mid symbols (Ok x) new result → Defines old symbols rule new result
  concludes-definition {old = old} {mid = mid} g rule x is new result h = subst (λ r. Defines old symbols r new result) (sym is) (record {
    concluded = subst
        (λ made. IfOk result (λ id. (id ≡ length (steps_of made))
        × ((y : Step) × (limited (Ok x) ≡ Ok y) × (new.made ≡ (made ++ map Made.symbol symbols) ++ Made.step y ∷ [])))) g.made h.concluded;
    refused = h.refused;
    unchanged = subst (λ made. OnErr result (new.made ≡ made)) g.made h.unchanged;
    keeps = Keeps-trans g.trees h.keeps;
  })

  pub refuses-defined : {old mid : Kept} → Grows old mid → (x : Step) (fault : Fault) → Fails fault (sequent_in_limits x.sequent)
      → Defines old symbols (Ok x) mid (Err fault)
  refuses-defined g x fault h = let r = refuses-step g x fault h in record { concluded = tt; refused = r.refused; unchanged = r.unchanged; keeps = r.keeps }

  pub defines-step : (old new : Kept) (x : Step) (id : ℕ) → sequent_in_limits x.sequent ≡ Ok tt → id ≡ step_count old → Keeps old.trees new.trees → new.made
      ≡ (old.made ++ map Made.symbol symbols) ++ Made.step x ∷ [] → Defines old symbols (Ok x) new (Ok id)
  defines-step old new x id e n k is = record {
    concluded = (n, (x, ap (λ r. r >> Ok x) e, is));
    refused = tt;
    unchanged = tt;
    keeps = k;
  }

  pub refused-defined : {old mid : Kept} → Grows old mid → (x : Step) (r : Result ℕ Fault) (fault : Fault) → IsErrAnd r (λ e. e ≡ fault)
      → Fails fault (sequent_in_limits x.sequent) → Defines old symbols (Ok x) mid r
  refused-defined g x (Ok v) fault h f = absurd h
  refused-defined g x (Err e) fault h f = refuses-defined g x e (subst (λ w. Fails w (sequent_in_limits x.sequent)) (sym h) f)

-- a definition by a step that depends on the trees, after what changed nothing
module _ (old mid : Kept) (same : mid ≡ old) (symbols : Kept → List Symbol) (x : Kept → Step) where
  pub same-follows : IsStep (old.made ++ map Made.symbol (symbols old)) (x old) → IsStep (mid.made ++ map Made.symbol (symbols mid)) (x mid)
  same-follows f = subst (λ (k : Kept). IsStep (k.made ++ map Made.symbol (symbols k)) (x k)) (sym same) f

  pub same-defines : (new : Kept) (id : ℕ) → sequent_in_limits (x old).sequent ≡ Ok tt → id ≡ step_count mid → new
      ≡ record mid { made = (mid.made ++ map Made.symbol (symbols mid)) ++ Made.step (x mid) ∷ [] } → Defines old (symbols old) (Ok (x old)) new (Ok id)
  same-defines new id e n is =
      let now : new ≡ record old { made = (old.made ++ map Made.symbol (symbols old)) ++ Made.step (x old) ∷ [] } =
      is ∙ ap (λ (k : Kept). record k { made = (k.made ++ map Made.symbol (symbols k)) ++ Made.step (x k) ∷ [] }) same in
      defines-step (symbols old) old new (x old) id e (n ∙ ap step_count same) (subst (λ (k : Kept). Keeps old.trees k.trees) (sym now) (Keeps-refl old.trees))
      (ap (λ (k : Kept). k.made) now)
