-- Steps append, and what is written of theorems by their keys.
use Rattle.std.proofs.Common.{◌≡◌, ℕ, zero, suc, ◌<◌, Bool, true, false, List, [], ◌∷◌, length, Option, Result, pos, refl, sym, ap, subst, ◌∙◌}
use Rattle.std.specs.Prelude.{unwrap_or}
use Rattle.std.proofs.lemmas.List.{length-map}
use Rattle.hol_laws.specs.Members.{All-append}
use Rattle.hol_spec.specs.Rules.{Parameters}
use Rattle.hol_spec.specs.Proofs.{Step}
use Rattle.hol_spec.specs.declared.StepKind.{StepKind}
use Rattle.hol_spec.specs.declared.StepKind.TheVariants.{Axiom, Restate, DefineConst, DefineConstList, FirstLaw, SecondLaw}
use Rattle.hol_term.specs.Tables.{Trees}
use Rattle.article_spec.specs.declared.commands.Item.TheVariants as item
use Rattle.article_spec.specs.declared.commands.Word.TheVariants as word
use Rattle.article_write_spec.specs.ItemTexts.{text_of}
use Rattle.article_write_spec.specs.Drafts.{Kept, Draft, key_of, say_name, say_word, pops, keep, write_each, write_list}
use Rattle.article_write_spec.specs.WrittenTerms.{write_term}
use Rattle.article_write_spec.specs.WrittenSteps.{write_premise, keep_theorem, keep_made, write_given, write_export, write_assumption, write_inferred, write_by, word_of}
use Rattle.article_lines.specs.declared.keys.Thing.TheVariants as thing
use Rattle.article_lines.specs.Things.{Keyed, thing_key, with_thing}
use Rattle.article_lines.specs.KeptThings.{all_kept_at-push, kept_at, IsThing}
use Rattle.article_lines.specs.Writing.{Writes}
use Rattle.article_lines.specs.WritingLaws.{writes_same}
use Rattle.article_lines.specs.NewSteps.{IsNew, IsNewStep}
use Rattle.article_steps.specs.Said.{said, kept_by, IsAppending}
use Rattle.article_steps.specs.Given.{type_pair_writer, term_pair_writer, constant_pair_writer}
use Rattle.article_steps.specs.Left.{kept_of, AreKeysOf, IsOpen, Adds}
use Rattle.article_steps.proofs.SaidLaws.{appends-none, appends-then, appends-say, appends-keep, appends-refer, appends-each, appends-list, appends-pair, appends-variable, appends-under, on_ok}
use Rattle.article_steps.proofs.GivenLaws.{appends-type_pair, appends-term_pair, appends-constant_pair}
use Rattle.article_steps.proofs.NewTheorems.{theorem-key}

-- Steps append
pub appends-given : (q : ℕ) (g : Parameters) → IsAppending (write_given q g)
appends-given q Parameters.nothing = appends-none
appends-given q (Parameters.term t) = appends-under q [] t
appends-given q (Parameters.variable v) = appends-variable v
appends-given q (Parameters.substitution types terms) =
    appends-pair (write_list type_pair_writer types) (write_list (term_pair_writer q) terms) (appends-list type_pair_writer appends-type_pair types)
    (appends-list (term_pair_writer q) (appends-term_pair q) terms)
appends-given q (Parameters.sequent s) = appends-then (write_list (write_term q) s.hypotheses) (write_term q s.conclusion)
    (appends-list (write_term q) (appends-under q []) s.hypotheses) (appends-under q [] s.conclusion)
appends-given q (Parameters.constant n t) = appends-then (say_name n) (write_term q t) (appends-say (item.Name n)) (appends-under q [] t)
appends-given q (Parameters.constants pairs) = appends-list constant_pair_writer appends-constant_pair pairs
appends-given q (Parameters.type_operator names version) =
    appends-then (λ d. say_name names.representation (say_name names.abstraction (say_name names.operator d))) (write_list say_name names.variables)
    (appends-then (λ d. say_name names.abstraction (say_name names.operator d)) (say_name names.representation)
    (appends-then (say_name names.operator) (say_name names.abstraction) (appends-say (item.Name names.operator)) (appends-say (item.Name names.abstraction)))
    (appends-say (item.Name names.representation)))
    (appends-list say_name (λ n. appends-say (item.Name n)) names.variables)

pub appends-premise : (i : ℕ) → IsAppending (write_premise i)
appends-premise i = record { each = λ items d. (appends-refer (unwrap_or (key_of (Kept.theorem i) d) 0)).each items d }

pub appends-premises : (is : List ℕ) → IsAppending (write_each write_premise is)
appends-premises is = appends-each write_premise appends-premise is

pub appends-word : (w : _) → IsAppending (say_word w)
appends-word w = appends-say (item.Word w)

pub appends-theorem : (i : ℕ) → IsAppending (keep_theorem i)
appends-theorem i = appends-then (keep (Kept.theorem i)) (say_word word.Pop) (appends-keep (Kept.theorem i)) (appends-word word.Pop)

pub appends-pops : (k : ℕ) → IsAppending (pops k)
appends-pops zero = appends-none
appends-pops (suc k) = appends-then (say_word word.Pop) (pops k) (appends-word word.Pop) (appends-pops k)

pub appends-made : (kind : StepKind) (i : ℕ) → IsAppending (keep_made kind i)
appends-made DefineConst i = appends-then (keep_theorem i) (pops 1) (appends-theorem i) (appends-pops 1)
appends-made DefineConstList i = appends-then (keep_theorem i) (pops 1) (appends-theorem i) (appends-pops 1)
appends-made FirstLaw i =
    appends-then (λ d. keep_theorem i (keep_theorem (suc i) d)) (pops 3)
    (appends-then (keep_theorem (suc i)) (keep_theorem i) (appends-theorem (suc i)) (appends-theorem i)) (appends-pops 3)
appends-made kind i = appends-theorem i

appends-export : (q : ℕ) (x : Step) → IsAppending (write_export q x)
appends-export q x =
    appends-then (λ d. write_given q x.parameters (write_each write_premise x.premises d)) (say_word word.Thm)
    (appends-then (write_each write_premise x.premises) (write_given q x.parameters) (appends-premises x.premises) (appends-given q x.parameters))
    (appends-word word.Thm)

appends-assumption : (q i : ℕ) (x : Step) → IsAppending (write_assumption q i x)
appends-assumption q i x =
    appends-then (λ d. say_word word.Axiom (write_given q x.parameters d)) (keep_theorem i)
    (appends-then (write_given q x.parameters) (say_word word.Axiom) (appends-given q x.parameters) (appends-word word.Axiom)) (appends-theorem i)

appends-inferred : (q i : ℕ) (x : Step) → IsAppending (write_inferred q i x)
appends-inferred q i x =
    appends-then (λ d. say_word (word_of x.kind) (write_each write_premise x.premises (write_given q x.parameters d))) (keep_made x.kind i)
    (appends-then (λ d. write_each write_premise x.premises (write_given q x.parameters d)) (say_word (word_of x.kind))
    (appends-then (write_given q x.parameters) (write_each write_premise x.premises) (appends-given q x.parameters) (appends-premises x.premises))
    (appends-word (word_of x.kind)))
    (appends-made x.kind i)

pub appends-by : (q : ℕ) (kind : StepKind) (e : Bool) (i : ℕ) (x : Step) → IsAppending (write_by q kind e i x)
appends-by q Axiom e i x = appends-assumption q i x
appends-by q Restate true i x = appends-export q x
appends-by q Restate false i x = appends-assumption q i x
appends-by q SecondLaw e i x = appends-none
appends-by q kind e i x = appends-inferred q i x

-- Kinds that are none of some
pub new-plain : (keys : Keyed) (kind : StepKind) (i : ℕ) → (kind ≡ FirstLaw → ⊥) → (kind ≡ SecondLaw → ⊥) → IsNewStep keys kind i → IsNew keys i
new-plain keys FirstLaw i a b h = absurd (a refl)
new-plain keys SecondLaw i a b h = absurd (b refl)
new-plain keys kind i a b h = h

pub made-plain : (kind : StepKind) (i : ℕ) → (kind ≡ DefineConst → ⊥) → (kind ≡ DefineConstList → ⊥) → (kind ≡ FirstLaw → ⊥) → (d : Draft) → keep_theorem i d
    ≡ keep_made kind i d
made-plain DefineConst i a b c d = absurd (a refl)
made-plain DefineConstList i a b c d = absurd (b refl)
made-plain FirstLaw i a b c d = absurd (c refl)
made-plain kind i a b c d = refl

pub by-plain : (q : ℕ) (kind : StepKind) (e : Bool) (i : ℕ) (x : Step) → (kind ≡ Axiom → ⊥) → (kind ≡ Restate → ⊥) → (kind ≡ SecondLaw → ⊥) → (d : Draft)
    → write_inferred q i x d ≡ write_by q kind e i x d
by-plain q Axiom e i x a b c d = absurd (a refl)
by-plain q Restate e i x a b c d = absurd (b refl)
by-plain q SecondLaw e i x a b c d = absurd (c refl)
by-plain q kind e i x a b c d = refl

-- What is written of a theorem
module _ (trees : Trees) where
  -- its key
  pub adds-premise : {T E : Type 0} (i key : ℕ) (k : Keyed) (p : ℕ) (a b : Option (List ℕ)) (f g : ℕ) (r : Result T E) → key
      ≡ unwrap_or (thing_key k (thing.Theorem i)) 0 → i < k.theorems → IsOpen trees k p
      → Writes a f (text_of (item.Number (pos key) ∷ item.Word word.Ref ∷ [])) b g r → Adds trees (write_premise i) k a f k p b g r
  unfolding said kept_by
  adds-premise i key k p a b f g r is low o w =
      let same : text_of (write_premise i (record { commands = []; kept = kept_of trees k })).commands
      ≡ text_of (item.Number (pos key) ∷ item.Word word.Ref ∷ []) =
      ap (λ n. text_of (item.Number (pos n) ∷ item.Word word.Ref ∷ [])) (ap (λ z. unwrap_or z 0) (theorem-key trees k i o.known low) ∙ sym is) in
      record {
        tells = record { writes = writes_same _ _ same w; keeps = on_ok r (λ u. refl) w.ok };
        ready = on_ok r (λ u. o) w.ok;
        count = on_ok r (λ u. refl) w.ok;
      }

  -- the key that it gets
  with-theorem : (i : ℕ) (k : Keyed) → AreKeysOf trees k → i < k.theorems → AreKeysOf trees (with_thing (thing.Theorem i) k)
  with-theorem i k known low = record {
    types = known.types;
    terms = known.terms;
    things = All-append (IsThing trees k.theorems) k.things (thing.Theorem i ∷ []) known.things (low, tt {0});
    distinct = known.distinct;
  }

  pub adds-kept : {T E : Type 0} (i : ℕ) (k l : Keyed) (p : ℕ) (a b : Option (List ℕ)) (f g : ℕ) (r : Result T E) → l ≡ with_thing (thing.Theorem i) k
      → i < k.theorems → IsOpen trees k p
      → Writes a f (text_of (item.Number (pos (length k.things)) ∷ item.Word word.Def ∷ [])) b g r → Adds trees (keep (Kept.theorem i)) k a f l p b g r
  unfolding said kept_by
  adds-kept i k l p a b f g r is low o w =
      let same : text_of (keep (Kept.theorem i) (record { commands = []; kept = kept_of trees k })).commands
      ≡ text_of (item.Number (pos (length k.things)) ∷ item.Word word.Def ∷ []) =
      ap (λ n. text_of (item.Number (pos n) ∷ item.Word word.Def ∷ [])) (length-map k.things (kept_at trees)) in
      record {
        tells = record {
          writes = writes_same _ _ same w;
          keeps =
              on_ok r (λ u. ap (kept_of trees) is ∙ all_kept_at-push trees k.things (thing.Theorem i)) w.ok;
        };
        ready = on_ok r (λ u. subst (λ (z : Keyed). IsOpen trees z p) (sym is) (record { known = with-theorem i k o.known low; roomy = o.roomy })) w.ok;
        count = on_ok r (λ u. ap (λ (z : Keyed). z.theorems) is) w.ok;
      }
