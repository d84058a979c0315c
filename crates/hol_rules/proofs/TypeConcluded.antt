-- The definition of a type operator that ends.
use Rattle.std.proofs.Common.{◌≡◌, ℕ, ◌+◌, sym, ap, subst, ◌∙◌, Bool, true, Result, Ok, Err}
use Rattle.std.specs.Result.{IsErrAnd}
use Rattle.std.specs.Prelude.{◌&&◌, nat_le}
use Rattle.common.specs.declared.faults.Fault.{Fault}
use Rattle.common.specs.declared.faults.Fault.TheVariants.{Memory, Refused}
use Rattle.common.specs.declared.faults.Kind.{Kind}
use Rattle.common.specs.declared.faults.Kind.TheVariants.{TooManyParams}
use Rattle.hol_spec.specs.Definitions.{TypeNames}
use Rattle.hol_spec.specs.Limits.{greatest_parameter_count}
use Rattle.hol_spec.specs.Sequents.{parameter_count}
use Rattle.hol_spec.specs.Terms.{Term}
use Rattle.hol_spec.specs.TypeDefinitions.{first_law_of, second_law_of}
use Rattle.hol_spec.specs.Types.{HolType}
use Rattle.hol_spec.specs.declared.Version.{Version}
use Rattle.article_spec.specs.Conditions.{demand, in_limits}
use Rattle.article_spec.specs.Results.{◌>>◌, Fails}
use Rattle.hol_term.specs.Tables.{term_at, type_at, Keeps}
use Rattle.hol_term.specs.TableLaws.{Keeps-trans}
use Rattle.sequent.specs.Sequents.{sequent_at}
use Rattle.hol_rules.specs.declared.type_definitions.Laws.{Laws}
use Rattle.hol_rules.specs.declared.type_definitions.TypeParts.{TypeParts}
use Rattle.hol_rules.specs.Conclusions.{with_type, DefinesType}
use Rattle.hol_rules.specs.Kept.{Kept, Grows, step_count}
use Rattle.hol_rules.specs.Laws.{AreLaws, AreSmall, AreTypeParts}
use Rattle.article_spec.specs.RuleSteps.{NewType, made_of_type, type_laws, type_measures}
use Rattle.hol_rules.proofs.TypeEnds.{type-limits}
use Rattle.hol_rules.proofs.TypeKept.{whole-grown, predicate-grown}
use Rattle.hol_rules.proofs.TypeMeasures.{measures-counted}
use Rattle.std.proofs.Math.Path.{ap₂}

-- a condition fails, where at most types and terms came
pub refuses-type : {old mid : Kept} → Grows old mid → (rule : Result NewType Kind) (fault : Fault) → Fails fault rule → DefinesType old rule mid (Err fault)
refuses-type g rule fault h = record { concluded = tt; refused = h; unchanged = g.made; keeps = g.trees }

-- the same of an answer that hands on a fault
pub refused-type : {old mid : Kept} → Grows old mid → (rule : Result NewType Kind) (r : Result (ℕ × ℕ) Fault) (fault : Fault) → IsErrAnd r (λ e. e ≡ fault)
    → Fails fault rule → DefinesType old rule mid r
refused-type g rule (Ok ids) fault h f = absurd h
refused-type g rule (Err e) fault h f = refuses-type g rule e (subst (λ w. Fails w rule) (sym h) f)

-- what is made stays where types and terms come
pub Grows-made : {a b c : Kept} → Grows a b → Keeps b.trees c.trees → c.made ≡ b.made → Grows a c
Grows-made g k e = record { trees = Keeps-trans g.trees k; made = e ∙ g.made }

pub laws-grown : {k mid : Kept} (g : Grows k mid) (names : TypeNames) (i : ℕ) (parts : TypeParts) (h : AreTypeParts k names i parts) (version : Version)
    (laws : Laws) → AreLaws version mid.trees names (type_at k.trees parts.whole.0) (term_at k.trees parts.predicate.0) laws
    → AreLaws version mid.trees names (type_at mid.trees parts.whole.0) (term_at mid.trees parts.predicate.0) laws
laws-grown {mid = mid} g names i parts h version laws l =
    subst (λ (p : HolType × Term). AreLaws version mid.trees names p.0 p.1 laws)
    (λ t. (sym (whole-grown g names i parts h) t, sym (predicate-grown g names i parts h) t)) l

module _ (version : Version) (k : Kept) (names : TypeNames) (i : ℕ) (parts : TypeParts) (h : AreTypeParts k names i parts) where
  abbrev c : HolType
  c = type_at k.trees parts.whole.0

  abbrev f : Term
  f = term_at k.trees parts.predicate.0

  limits : type_laws version k.made names i ≡ (in_limits (type_measures version names c f) >> Ok (made_of_type version names i c f))
  limits = type-limits version k names i parts h

  -- a limit is passed
  pub limit-fails : (fault : Fault) → Fails fault (in_limits (type_measures version names c f)) → Fails fault (type_laws version k.made names i)
  limit-fails Memory e = tt
  limit-fails (Refused kind) e = limits ∙ ap (λ r. r >> Ok (made_of_type version names i c f)) e

  module _ (small : AreSmall (type_measures version names c f)) (mid : Kept) (g : Grows k mid) (laws : Laws) (l : AreLaws version mid.trees names c f laws)
    where
      counts : (nat_le (parameter_count (sequent_at mid.trees laws.first)) greatest_parameter_count && nat_le (parameter_count (sequent_at mid.trees laws.second))
          greatest_parameter_count)
          ≡ (nat_le (parameter_count (first_law_of version names c)) greatest_parameter_count && nat_le (parameter_count (second_law_of version names c f))
          greatest_parameter_count)
      counts = ap₂ (λ s t. nat_le (parameter_count s) greatest_parameter_count && nat_le (parameter_count t) greatest_parameter_count) l.first.is l.second.is

      abbrev are_few : Bool
      are_few = nat_le (parameter_count (sequent_at mid.trees laws.first)) greatest_parameter_count && nat_le (parameter_count (sequent_at mid.trees laws.second))
          greatest_parameter_count

      counted : in_limits (type_measures version names c f) ≡ demand are_few TooManyParams
      counted = measures-counted names c f version small ∙ ap (λ d. demand d TooManyParams) (sym counts)

      -- the number of parameters is judged last
      pub type-many : (fault : Fault) → Fails fault (demand are_few TooManyParams) → Fails fault (type_laws version k.made names i)
      type-many fault e = limit-fails fault (subst (Fails fault) (sym counted) e)

      -- within the limits
      pub type-is : are_few ≡ true → type_laws version k.made names i ≡ Ok (made_of_type version names i c f)
      type-is e = limits ∙ ap (λ r. r >> Ok (made_of_type version names i c f)) (counted ∙ ap (λ d. demand d TooManyParams) e)

      -- what is concluded there
      pub type-ended : (new : Kept) (ids : ℕ × ℕ) → (ids.0 ≡ step_count mid) × (ids.1 ≡ step_count mid + 1) → new.made
          ≡ with_type mid.made (made_of_type version names i (type_at mid.trees parts.whole.0) (term_at mid.trees parts.predicate.0)) → Keeps mid.trees new.trees
          → type_laws version k.made names i ≡ Ok (made_of_type version names i c f) → DefinesType k (type_laws version k.made names i) new (Ok ids)
      type-ended new ids n made keeps is = record {
        concluded = (
          n.0 ∙ ap (λ m. step_count (record { trees = k.trees; made = m })) g.made,
          (n.1 ∙ ap (λ m. step_count (record { trees = k.trees; made = m }) + 1) g.made, (made_of_type version names i c f, is, made ∙ same)),
        );
        refused = tt;
        unchanged = tt;
        keeps = Keeps-trans g.trees keeps;
      }
        where
          same : with_type mid.made (made_of_type version names i (type_at mid.trees parts.whole.0) (term_at mid.trees parts.predicate.0))
              ≡ with_type k.made (made_of_type version names i c f)
          same = λ t. with_type (g.made t) (made_of_type version names i (whole-grown g names i parts h t) (predicate-grown g names i parts h t))
