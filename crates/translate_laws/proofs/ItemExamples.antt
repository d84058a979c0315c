-- The conditions on items can be met: an input constant f, |- f = f at bool, a step that nothing reaches, and the export of the first.
use Rattle.std.specs.Prelude.{◌≡◌, List, [], ◌∷◌, ◌++◌, codes}
use Rattle.std.specs.List.{IsDistinct}
use Rattle.std.proofs.Common.{refl, inl, inr}
use Rattle.hol_spec.specs.Primitives.{bool, generic, generic_variable, equality_type}
use Rattle.hol_spec.specs.Terms.{Term, term_eq, equation}
use Rattle.hol_spec.specs.Terms as term
use Rattle.hol_spec.specs.Sequents.{Sequent, IsSequent}
use Rattle.lp_spec.specs.Trees.{Tree, Var, Sym, App, Pi}
use Rattle.lp_spec.specs.Modules.{symbol, types, bools, term_of, eq_of, proof_of, refl_of}
use Rattle.lp_spec.specs.Lemmas.{lemmas, theorem}
use Rattle.hol_spec.specs.Rules.{sequent}
use Rattle.hol_spec.specs.declared.StepKind.TheVariants.{Refl, Restate}
use Rattle.hol_spec.specs.Rules as rule
use Rattle.translate_spec.specs.Items.{Item, constant, step, module_of, symbols_of}
use Rattle.translate_laws.specs.ItemConditions.{TypeTaken, TermTaken, SequentTaken}
use Rattle.translate_laws.specs.ItemConditions as items
use Rattle.translate_spec.specs.Reach.{number_key, image_items, keep_of}
use Rattle.translate_laws.specs.WantedItems.{AreMadeInOrder}

abbrev f : Term
f = term.Term.constant (codes "f" ∷ []) bool

abbrev x : Term
x = term.Term.free (codes "x" ∷ []) bool

abbrev said : Term → Sequent
said t = record { hypotheses = []; conclusion = equation bool t t }

abbrev pub made : List Item
made =
    record { symbol = 0; name = codes "i_f"; content = constant (codes "f" ∷ []) generic }
    ∷ record { symbol = 1; name = codes "T0"; content = step Refl [] [] (rule.term f) (said f) }
    ∷ record { symbol = 2; name = codes "T1"; content = step Refl [] [] (rule.term x) (said x) }
    ∷ record { symbol = 3; name = codes "E0"; content = step Restate (1 ∷ []) (said f ∷ []) (sequent (said f)) (said f) }
    ∷ []

no_hypotheses : IsDistinct term_eq []
unfolding IsDistinct
no_hypotheses = tt

bool_taken : (before : List Item) → TypeTaken before bool
bool_taken before = (items.OperatorTaken.primitive refl, tt {0})

equality_taken : (before : List Item) → TypeTaken before (equality_type bool)
equality_taken before =
    (items.OperatorTaken.primitive refl, (bool_taken before, ((items.OperatorTaken.primitive refl, (bool_taken before, (bool_taken before, tt {0}))), tt {0})))

said_taken : (before : List Item) (t : Term) → TermTaken before t → IsSequent (said t) → SequentTaken before (said t)
said_taken before t h is = record {
  is = is;
  hypotheses = tt {0};
  conclusion = (((items.ConstantTaken.primitive (equality_type generic) refl ((generic_variable, bool) ∷ [], refl), equality_taken before), h), h);
}

f_sequent : IsSequent (said f)
f_sequent = record { no_repeats = no_hypotheses; hypotheses = tt {0}; conclusion = refl }

x_sequent : IsSequent (said x)
x_sequent = record { no_repeats = no_hypotheses; hypotheses = tt {0}; conclusion = refl }

abbrev f_item : Item
f_item = record { symbol = 0; name = codes "i_f"; content = constant (codes "f" ∷ []) generic }

f_taken : (rest : List Item) → TermTaken (f_item ∷ rest) f
f_taken rest = (items.ConstantTaken.declared generic (f_item, inl refl, refl) ((generic_variable, bool) ∷ [], refl), bool_taken (f_item ∷ rest))

pub made_in_order : AreMadeInOrder [] made
made_in_order = (
  refl,
  (refl, refl),
  tt {0},
  (
    refl,
    tt {0},
    (record { rule = rule.refl refl refl; row = refl; among = tt {0}; taken = said_taken (f_item ∷ []) f (f_taken []) f_sequent }, tt {0}),
    (
      refl,
      tt {0},
      (record { rule = rule.refl refl refl; row = refl; among = tt {0}; taken = said_taken _ x (bool_taken _) x_sequent }, tt {0}),
      (
        refl,
        tt {0},
        (
          record {
            rule = rule.restate f_sequent refl;
            row = refl;
            among = ((record { symbol = 1; name = codes "T0"; content = step Refl [] [] (rule.term f) (said f) }, inr (inl refl), refl, refl), tt {0});
            taken = said_taken _ f (f_taken _) f_sequent;
          },
          tt {0},
        ),
        tt {0},
      ),
    ),
  ),
)

abbrev kept_items : List Item
kept_items = image_items (keep_of (number_key 3 ∷ []) made) made

abbrev pub f_tree : Tree
f_tree = App (Sym 20) bools

-- and has the constant, the step and the export after the lemmas
example_module : module_of (symbols_of kept_items) kept_items
    ≡ lemmas ++ symbol (codes "i_f") (Pi types (term_of (Var 0))) ∷ theorem (codes "T0") [] (proof_of (eq_of bools f_tree f_tree)) (refl_of bools f_tree)
    ∷ theorem (codes "E0") [] (proof_of (eq_of bools f_tree f_tree)) (Sym 21) ∷ []
example_module = refl
