use Rattle.std.proofs.lemmas.Result.{IfOk-weaker, on_err_weaker}
use Rattle.hol_term.specs.Substitutions.{term_pairs_at, ArePairsFitting, image_of}
use Rattle.hol_term.specs.Tables.{term_at}
use Rattle.hol_term.proofs.Settled.{IfErr-map, OnOk-always, known_term}
use Rattle.hol_term.proofs.ImageLaws.{AreTermPairs-known, ArePairsFitting-at, sub_term, subst_refusal}
use Rattle.hol_type.specs.Tables as type
use Rattle.hol_term.proofs.TermTable.subst.Goals as goal

pub raw_subst-made-requires-clause-pairs : goal.raw_subst-made-requires-clause-pairs
raw_subst-made-requires-clause-pairs c = record
    { known_types = c.requires.type_pairs; known_terms = AreTermPairs-known c.args.self.now c.args.term_pairs.now c.requires.term_pairs }

pub raw_subst-made-requires-clause-id : goal.raw_subst-made-requires-clause-id
raw_subst-made-requires-clause-id c = known_term c.args.self.now c.args.id.0 c.requires.id

pub settle-requires-clause-earlier : goal.settle-requires-clause-earlier
settle-requires-clause-earlier c = (
  c.args.self.now,
  record {
    keeps = c.raw_subst-made.ensures.keeps;
    own = c.mark-mark.ensures.own;
    types = c.mark-mark.ensures.types;
    terms =
        c.mark-mark.ensures.terms;
  },
)

pub settle-requires-clause-made : goal.settle-requires-clause-made
settle-requires-clause-made c = c.raw_subst-made.ensures.known

pub returns-clause-known : goal.returns-clause-known
returns-clause-known c = c.settle.ensures.known

pub returns-clause-made : goal.returns-clause-made
returns-clause-made c = c.settle.ensures.made (image_of c.args.self.now c.args.type_pairs.now c.args.term_pairs.now (term_at c.args.self.now c.args.id.0))
    c.raw_subst-made.ensures.made

pub returns-clause-within : goal.returns-clause-within
returns-clause-within c = c.settle.ensures.within (image_of c.args.self.now c.args.type_pairs.now c.args.term_pairs.now (term_at c.args.self.now c.args.id.0))
    c.raw_subst-made.ensures.made

pub returns-clause-keeps : goal.returns-clause-keeps
returns-clause-keeps c = c.settle.ensures.keeps c.args.self.now
    (record { keeps = c.raw_subst-made.ensures.keeps; own = c.mark-mark.ensures.own; types = c.mark-mark.ensures.types; terms = c.mark-mark.ensures.terms })

pub returns-clause-unchanged : goal.returns-clause-unchanged
returns-clause-unchanged c = on_err_weaker c.settle.result
    (λ back. back c.args.self.now
    (record { keeps = c.raw_subst-made.ensures.keeps; own = c.mark-mark.ensures.own; types = c.mark-mark.ensures.types; terms = c.mark-mark.ensures.terms }))
    c.settle.ensures.unchanged

pub returns-clause-fits : goal.returns-clause-fits
returns-clause-fits c = OnOk-always c.settle.result (c.fits.ensures.0 c.if-not-fits.false)

pub returns-clause-typed : goal.returns-clause-typed
returns-clause-typed c =
    let fits = c.fits.ensures.0 c.if-not-fits.false in
    let it = sub_term (type.pairs_at c.args.self.now.types c.args.type_pairs.now) (term_pairs_at c.args.self.now c.args.term_pairs.now)
    (term_at c.args.self.now c.args.id.0) (ArePairsFitting-at c.args.self.now c.args.term_pairs.now fits) c.requires.id in
    IfOk-weaker c.settle.result _ _ (λ id k. it) c.settle.ensures.known

pub returns-clause-refusal : goal.returns-clause-refusal
returns-clause-refusal c =
    let fits = c.fits.ensures.0 c.if-not-fits.false in
    let t = image_of c.args.self.now c.args.type_pairs.now c.args.term_pairs.now (term_at c.args.self.now c.args.id.0) in
    IfErr-map c.settle.result (λ fault h. subst_refusal (ArePairsFitting c.args.self.now c.args.term_pairs.now) t fits fault h)
    (c.settle.ensures.refusal t c.raw_subst-made.ensures.made)
