-- What is known of the state after some blocks, and that one block more keeps it.
use Rattle.std.proofs.Common.{◌≡◌, ℕ, zero, suc, ◌≤◌, pos, false, List, [], ◌∷◌, ◌++◌, refl, ap, ◌∙◌, arith, Some, Ok}
use Rattle.std.specs.Ordering.{int_cmp, eq_by_cmp}
use Rattle.std.specs.FinMap as entries
use Rattle.hol_spec.specs.Names.{Name}
use Rattle.hol_spec.specs.Primitives.{bool}
use Rattle.hol_spec.specs.Terms.{Term}
use Rattle.hol_spec.specs.Symbols.{generic_type, is_taken_constant}
use Rattle.hol_spec.specs.Proofs.{Made, symbols_of}
use Rattle.article_spec.specs.declared.commands.Item.{Item}
use Rattle.article_spec.specs.declared.commands.Item.TheVariants as item
use Rattle.article_spec.specs.State.{Object, theorem}
use Rattle.article_spec.specs.State as object
use Rattle.article_trial_laws.specs.Trials.{f, constant_name, truths, p, wrapped, definition_of, symbols_after}
use Rattle.article_trial_laws.specs.TrialSymbols.{new_name, type_of_constant}
use Rattle.article_trial_laws.specs.TrialSteps.{Dictionary, Has, Has-own, Has-other, IsAt, obeyed, obeyed-then, state, Concludes, concludes_then}
use Rattle.article_trial_laws.specs.TrialBlocks.{x, p_is_p, are_alike, wrap, define, apply, contract, join, chain, keep, kept, wraps, defines, applies, contracts, joins, chains, keeps}

-- after i blocks: what stands at the numbers, what its theorem says, and which symbols are taken
pub record Ready (i : ℕ) (d : Dictionary) (made : List Made) : Type 0 where
  pub at_0 : Has d 0 (object.type bool)
  pub at_1 : Has d 1 (object.type truths)
  pub at_2 : Has d 2 (object.term p)
  pub reflexive : ℕ
  pub at_3 : Has d 3 (theorem reflexive)
  pub says : IsAt made reflexive p_is_p
  pub at_4 : Has d 4 (object.variable x)
  pub at_5 : Has d 5 (object.term (Term.constant (constant_name i) truths))
  pub taken : symbols_of made ≡ symbols_after i

-- and from one block on: the theorem that the last constant is f at p
pub record Chained (i : ℕ) (d : Dictionary) (made : List Made) : Type 0 where
  pub number : ℕ
  pub at_7 : Has d 7 (theorem number)
  pub says : IsAt made number (are_alike (constant_name i) f)

-- what the commands of a block are
abbrev pub proving : List Item
proving = define ++ (apply ++ (contract ++ join))

abbrev pub block_items : ℕ → List Item
block_items zero = (item.Name (constant_name 1) ∷ wrap) ++ (proving ++ keep)
block_items (suc i) = (item.Name (constant_name (suc (suc i))) ∷ wrap) ++ ((proving ++ chain) ++ keep)

-- the dictionary while block i + 1 proves, and after it
abbrev with_wrapped : Name → Dictionary → Dictionary
with_wrapped m d = entries.insert d (pos 6) (object.term (wrapped m))

abbrev after_block : ℕ → Dictionary → ℕ → Dictionary
after_block i d k = kept (constant_name (suc i)) (with_wrapped (constant_name i) d) k

-- what block i + 1 proves first, whatever m is: its constant is m at p
proves : (i : ℕ) (d : Dictionary) (made : List Made) → suc i ≤ 100000 → Ready i d made
    → Concludes (with_wrapped (constant_name i) d) made (object.term (wrapped (constant_name i)) ∷ object.name (constant_name (suc i)) ∷ []) proving
    (object.constant (constant_name (suc i)) ∷ []) (symbols_of made ++ definition_of i ∷ []) (are_alike (constant_name (suc i)) (constant_name i))
proves i d made h r =
    let n : Name = constant_name (suc i) in
    let m : Name = constant_name i in
    let e : Dictionary = with_wrapped m d in
    let own : List Object = object.constant n ∷ [] in
    let new : is_taken_constant (symbols_of made) n ≡ false = ap (λ symbols. is_taken_constant symbols n) r.taken ∙ new_name i h in
    let one = defines n m e made new in
    let two = applies n m e one.after own one.number r.reflexive (Has-other d 6 (object.term (wrapped m)) 3 (theorem r.reflexive) refl r.at_3)
    (one.keeps r.reflexive p_is_p r.says) one.says in
    let three = contracts n m e two.after (theorem two.number ∷ own) (Has-own d 6 (object.term (wrapped m)) refl)
    (Has-other d 6 (object.term (wrapped m)) 2 (object.term p) refl r.at_2) in
    let four = joins n m e three.after own two.number three.number (three.keeps two.number _ two.says) three.says in
    concludes_then one (concludes_then two (concludes_then three four))

-- what stands at a number that a block leaves alone
Has-after : (i : ℕ) (d : Dictionary) (k j : ℕ) (y : Object) → eq_by_cmp int_cmp (pos j) (pos 6) ≡ false → eq_by_cmp int_cmp (pos j) (pos 7) ≡ false
    → eq_by_cmp int_cmp (pos j) (pos 5) ≡ false
    → Has d j y → Has (after_block i d k) j y
Has-after i d k j y six seven five h =
    let e : Dictionary = with_wrapped (constant_name i) d in
    Has-other (entries.insert e (pos 7) (theorem k)) 5 (object.term (Term.constant (constant_name (suc i)) truths)) j y five
    (Has-other e 7 (theorem k) j y seven (Has-other d 6 (object.term (wrapped (constant_name i))) j y six h))

ready_after : (i : ℕ) (d : Dictionary) (made after : List Made) (k : ℕ) (r : Ready i d made) → symbols_of after ≡ symbols_after (suc i)
    → IsAt after r.reflexive p_is_p → Ready (suc i) (after_block i d k) after
ready_after i d made after k r taken says = record {
  at_0 = Has-after i d k 0 (object.type bool) refl refl refl r.at_0;
  at_1 = Has-after i d k 1 (object.type truths) refl refl refl r.at_1;
  at_2 = Has-after i d k 2 (object.term p) refl refl refl r.at_2;
  reflexive = r.reflexive;
  at_3 = Has-after i d k 3 (theorem r.reflexive) refl refl refl r.at_3;
  says = says;
  at_4 = Has-after i d k 4 (object.variable x) refl refl refl r.at_4;
  at_5 = Has-own (entries.insert (with_wrapped (constant_name i) d) (pos 7) (theorem k)) 5 (object.term (Term.constant (constant_name (suc i)) truths)) refl;
  taken = taken;
}

-- a block leads to the next
pub record Leads (i : ℕ) (d : Dictionary) (made : List Made) : Type 0 where
  pub dictionary : Dictionary
  pub after : List Made
  pub leads : obeyed (state d made []) (block_items i) ≡ Ok (state dictionary after [])
  pub ready : Ready (suc i) dictionary after
  pub chained : Chained (suc i) dictionary after

-- the end of a block, behind what it proves
ends : (i : ℕ) (d : Dictionary) (made : List Made) (items : List Item) → suc i ≤ 100000 → Ready i d made
    → Concludes (with_wrapped (constant_name i) d) made (object.term (wrapped (constant_name i)) ∷ object.name (constant_name (suc i)) ∷ []) items
    (object.constant (constant_name (suc i)) ∷ []) (symbols_of made ++ definition_of i ∷ []) (are_alike (constant_name (suc i)) f)
    → block_items i ≡ (item.Name (constant_name (suc i)) ∷ wrap) ++ (items ++ keep) → Leads i d made
ends i d made items h r c is =
    let n : Name = constant_name (suc i) in
    let m : Name = constant_name i in
    let e : Dictionary = with_wrapped m d in
    let taken : symbols_of c.after ≡ symbols_after (suc i) = c.taken ∙ ap (λ symbols. symbols ++ definition_of i ∷ []) r.taken in
    let generic : generic_type (symbols_of c.after) n ≡ Some truths = ap (λ symbols. generic_type symbols n) taken ∙ type_of_constant i h in
    let after : Dictionary = after_block i d c.number in
    record {
      dictionary = after;
      after = c.after;
      leads = ap (obeyed (state d made [])) is
          ∙ obeyed-then (item.Name n ∷ wrap) (items ++ keep) (state d made []) _ (Ok (state after c.after [])) (wraps n m d made r.at_4 r.at_5)
          (obeyed-then items keep _ _ (Ok (state after c.after [])) c.leads
          (keeps n e c.after c.number (Has-other d 6 (object.term (wrapped m)) 1 (object.type truths) refl r.at_1) generic));
      ready = ready_after i d made c.after c.number r taken (c.keeps r.reflexive p_is_p r.says);
      chained = record {
        number = c.number;
        at_7 = Has-other (entries.insert e (pos 7) (theorem c.number)) 5 (object.term (Term.constant n truths)) 7 (theorem c.number) refl
            (Has-own e 7 (theorem c.number) refl);
        says = c.says;
      };
    }

-- the first block, and each later one
pub first_leads : (d : Dictionary) (made : List Made) → Ready 0 d made → Leads 0 d made
first_leads d made r = ends 0 d made proving (omega arith) r (proves 0 d made (omega arith) r) refl

pub next_leads : (i : ℕ) (d : Dictionary) (made : List Made) → suc (suc i) ≤ 100000 → Ready (suc i) d made → Chained (suc i) d made → Leads (suc i) d made
next_leads i d made h r c =
    let n : Name = constant_name (suc (suc i)) in
    let m : Name = constant_name (suc i) in
    let one = proves (suc i) d made h r in
    ends (suc i) d made (proving ++ chain) h r
    (concludes_then one
    (chains n m (with_wrapped m d) one.after (object.constant n ∷ []) one.number c.number
    (Has-other d 6 (object.term (wrapped m)) 7 (theorem c.number) refl c.at_7) one.says (one.keeps c.number _ c.says)))
    refl
