-- What is counted is a tally, also after more is added, told and noted.
use Rattle.std.proofs.Common.{◌≡◌, ℕ, ◌+◌, [], ◌∷◌, ◌++◌, length, Option, None, Some, refl, sym, ap, subst, ◌∙◌, arith}
use Rattle.std.specs.Option.{option_map}
use Rattle.std.proofs.lemmas.List.{length-map}
use Rattle.hol_laws.specs.Members.{All-append}
use Rattle.hol_term.specs.Tables.{Trees}
use Rattle.article_write_spec.specs.Lengths.{Tally, told_length, key_in, add, note, capped}
use Rattle.article_lines.specs.declared.keys.Thing.{Thing}
use Rattle.article_count.specs.declared.tally.Count.{Count}
use Rattle.article_lines.specs.Greatest.{greatest_length}
use Rattle.article_lines.specs.Things.{thing_key, HasRoom, IsOneOf}
use Rattle.article_lines.specs.KeptThings.{kept_at, all_kept_at-push, key_in-thing, IsThing}
use Rattle.article_count.specs.Counts.{added, noted, IsTally}

-- sums up to a number
pub capped-sum : (most a b c d : ℕ) → a ≡ capped most c → capped most b ≡ capped most d → capped most (a + b) ≡ capped most (c + d)
capped-sum most a b c d e f = omega (arith, e, f)

pub capped-twice : (most n : ℕ) → capped most (capped most n) ≡ capped most n
capped-twice most n = omega arith

pub capped-three : (most a b c : ℕ) → capped most (capped most (capped most a + capped most b) + c) ≡ capped most (a + b + c)
capped-three most a b c = omega arith

pub capped-five : (most a b i j k x v c d : ℕ) → a ≡ x → b ≡ v → j ≡ capped most c → k ≡ capped most d → capped most (a + b + i + j + k)
    ≡ capped most (x + v + i + c + d)
capped-five most a b i j k x v c d e f g h = omega (arith, e, f, g, h)

pub added-IsTally : {trees : Trees} {steps : ℕ} {c : Count} {m : Tally} (n k : ℕ) → capped greatest_length n ≡ capped greatest_length k
    → IsTally trees steps c m → IsTally trees steps (added n c) (add k m)
added-IsTally {c = c} {m = m} n k e h = record {
  kept = h.kept;
  counted = capped-sum greatest_length c.length n m.length k h.counted e;
  things = h.things;
  types = h.types;
  terms = h.terms;
  theorems = h.theorems;
  distinct = h.distinct;
}

-- two at once
pub two-IsTally : {trees : Trees} {steps : ℕ} {c : Count} {m : Tally} (a b i j : ℕ) → capped greatest_length a ≡ capped greatest_length i
    → capped greatest_length b ≡ capped greatest_length j → IsTally trees steps c m
    → IsTally trees steps (added b (added a c)) (add (i + j) m)
two-IsTally {trees = trees} {steps = steps} {c = c} {m = m} a b i j e f h =
    let two = added-IsTally b j f (added-IsTally a i e h) in
    let sum : m.length + i + j ≡ m.length + (i + j) = omega arith in
    subst (λ (l : ℕ). IsTally trees steps (added b (added a c)) (record m { length = l })) sum two

pub room-IsTally : {trees : Trees} {steps : ℕ} {c : Count} {m : Tally} (x : Thing) → IsTally trees steps c m → IsThing trees steps x → HasRoom c.keys x
room-IsTally {trees = trees} {steps = steps} {c = c} x h k =
    subst (λ n. IsOneOf n c.keys.terms c.keys.theorems x) (sym h.types)
    (subst (λ n. IsOneOf (length trees.types) n c.keys.theorems x) (sym h.terms)
    (subst (λ n. IsOneOf (length trees.types) (length trees.terms) n x) (sym h.theorems) k))

-- the key of a thing is that of what it stands for
pub key-IsTally : {trees : Trees} {steps : ℕ} {c : Count} {m : Tally} (x : Thing) → IsTally trees steps c m → IsThing trees steps x → thing_key c.keys x
    ≡ key_in m.kept (kept_at trees x)
key-IsTally {trees = trees} {steps = steps} {c = c} x h k =
    sym (key_in-thing trees steps c.keys.things x h.distinct h.things k) ∙ ap (λ l. key_in l (kept_at trees x)) h.kept

pub noted-IsTally : {trees : Trees} {steps : ℕ} {c : Count} {m : Tally} (x : Thing) → IsThing trees steps x → IsTally trees steps c m
    → IsTally trees steps (noted x c) (note (kept_at trees x) m)
noted-IsTally {trees = trees} {steps = steps} {c = c} {m = m} x k h =
    let many : length c.keys.things ≡ length m.kept = sym (length-map c.keys.things (kept_at trees)) ∙ ap length h.kept in
    record {
      kept = all_kept_at-push trees c.keys.things x ∙ ap (λ l. l ++ kept_at trees x ∷ []) h.kept;
      counted = capped-sum greatest_length c.length (told_length (length c.keys.things)) m.length (told_length (length m.kept)) h.counted
          (ap (λ n. capped greatest_length (told_length n)) many);
      things = All-append (IsThing trees steps) c.keys.things (x ∷ []) h.things (k, tt {0});
      types = h.types;
      terms = h.terms;
      theorems = h.theorems;
      distinct = h.distinct;
    }

-- what tells a thing has the length of its key
pub told-key : (o : Option ℕ) (n : ℕ) → Some n ≡ option_map told_length o → (k : ℕ) × (o ≡ Some k) × (n ≡ told_length k)
told-key None n e = absurd (cc)
told-key (Some k) n e = let same : n ≡ told_length k = cc in (k, refl, same)

pub many-kept : {trees : Trees} {steps : ℕ} {c : Count} {m : Tally} → IsTally trees steps c m → length c.keys.things ≡ length m.kept
many-kept {trees = trees} {c = c} h = sym (length-map c.keys.things (kept_at trees)) ∙ ap length h.kept
