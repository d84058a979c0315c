-- What a substitution makes of a sequent, by way of one tree.
use Rattle.std.proofs.Common.{◌≡◌, ℕ, sym, ap, ◌∙◌, List, length, map}
use Rattle.std.proofs.lemmas.List.{length-map}
use Rattle.hol_spec.specs.Names.{Name}
use Rattle.hol_spec.specs.Lists.{distinct}
use Rattle.hol_spec.specs.Substitution.{TypePairs}
use Rattle.hol_spec.specs.Terms.{Term, term_eq}
use Rattle.hol_spec.specs.TermSubstitution.{TermPairs, sub}
use Rattle.hol_type.specs.declared.table.TypeId.{TypeId}
use Rattle.hol_type.specs.Tables.{pairs_at}
use Rattle.hol_term.specs.declared.TermId.{TermId}
use Rattle.hol_term.specs.declared.Variable.{Variable}
use Rattle.hol_term.specs.Substitutions.{term_pairs_at, AreKnownPairs, image_of}
use Rattle.hol_term.specs.Tables.{Trees, term_at, terms_at, AreKnown, Holds, Keeps}
use Rattle.hol_term.specs.TableLaws.{Some-term_in}
use Rattle.sequent.specs.declared.Sequent.{Sequent}
use Rattle.sequent.specs.Sequents as numbers
use Rattle.hol_rules.specs.declared.substitution.Links.{Links}
use Rattle.hol_rules.specs.Chains.{chain, links_of, rest_of, AreLinks}
use Rattle.hol_rules.specs.Premises.{IsNumberOf, IsStated}
use Rattle.article_spec.specs.RuleSteps.{substituted}
use Rattle.hol_rules.proofs.Chaining.{links_of-chain, rest_of-chain, sub-chain}
use Rattle.hol_rules.proofs.PairLaws.{type_pairs-Keeps, term_pairs-Keeps}
use Rattle.std.proofs.Math.Path.{ap₂}

module _ (old a b : Trees) (k : Keeps old a) (types : List (Name × TypeId)) (terms : List (Variable × TermId)) (h : AreKnownPairs old types terms) (s : Sequent)
  where
    abbrev T : TypePairs
    T = pairs_at old.types types

    abbrev U : TermPairs
    U = term_pairs_at old terms

    abbrev hs : List Term
    hs = terms_at old s.hyps

    abbrev c : Term
    c = term_at old s.concl.0

    module _ (whole image : TermId) (w : IsNumberOf a whole (chain hs c)) (m : Holds b image.0 (image_of a types terms (term_at a whole.0))) where
      image_is : term_at b image.0 ≡ chain (map (sub T U) hs) (sub T U c)
      image_is =
          Some-term_in b.terms image.0 _ m ∙ ap (image_of a types terms) w.is
          ∙ ap₂ (λ ts us. sub ts us (chain hs c)) (sym (type_pairs-Keeps k types terms h)) (sym (term_pairs-Keeps k types terms h))
          ∙ sub-chain T U hs c

      module _ (count : ℕ) (links : Links) (l : AreLinks b count (term_at b image.0) links) (n : count ≡ length s.hyps) where
        all : count ≡ length (map (sub T U) hs)
        all = n ∙ sym (length-map hs (sub T U) ∙ length-map s.hyps (λ (id : TermId). term_at old id.0))

        pub image_stated : (hyps : List TermId) → AreKnown b hyps → terms_at b hyps ≡ distinct term_eq (terms_at b links.terms.items)
            → IsStated b (record { hyps = hyps; concl = links.rest }) (substituted T U (numbers.sequent_at old s))
        image_stated hyps known e =
            let links_are : terms_at b links.terms.items ≡ map (sub T U) hs = l.are ∙ ap₂ links_of all image_is ∙ links_of-chain (map (sub T U) hs) (sub T U c) in
            let rest_is : term_at b links.rest.0 ≡ sub T U c = l.rest ∙ ap₂ rest_of all image_is ∙ rest_of-chain (map (sub T U) hs) (sub T U c) in
            record {
              known = (known, l.rest_known);
              is = λ i. record { hypotheses = (e ∙ ap (distinct term_eq) links_are) i; conclusion = rest_is i };
            }
