-- How an article begins: what says version 6 stands before its body, and an article of version 5 is its body.
use Rattle.std.proofs.Common.{◌≡◌, Bool, true, false, cond, pos, List, [], ◌∷◌, Ok, refl, sym, ap, subst, ◌∙◌, inl, inr}
use Rattle.std.specs.Ordering.{int_eq}
use Rattle.hol_spec.specs.declared.Version.{Version}
use Rattle.hol_spec.specs.declared.Version.TheVariants.{Five, Six}
use Rattle.article_spec.specs.declared.commands.Item.{Item}
use Rattle.article_spec.specs.declared.commands.Item.TheVariants as item
use Rattle.article_spec.specs.declared.commands.Word.TheVariants as word
use Rattle.article_spec.specs.State.{Object, State, initial, start, version, body}
use Rattle.article_spec.specs.Results.{◌>>=◌}
use Rattle.article_spec.specs.Step.{in_body, finish}
use Rattle.article_laws.specs.SecondWords.{second_word-cases}
use Rattle.article_trial_laws.specs.TrialSteps.{obeyed}
use Rattle.article_write_spec.specs.Versions.{version_of}
use Rattle.article_write_laws.specs.Scenes.{Leads}

-- the commands lead to a state that ends like another
pub record EndsLike (first : State) (items : List Item) (t : State) : Type 0 where
  pub after : State
  pub obeys : obeyed first items ≡ Ok after
  pub ends : finish after ≡ finish t

at_second : (s : State) (items : List Item) (t : State) → obeyed (in_body Five s) items ≡ Ok t → EndsLike (record s { place = version }) items t
at_second s [] t e = let f : in_body Five s ≡ t = cc in record { after = record s { place = version }; obeys = refl; ends = ap finish f }
at_second s (item.Number z ∷ is) t e = record { after = t; obeys = e; ends = refl }
at_second s (item.Name n ∷ is) t e = record { after = t; obeys = e; ends = refl }
at_second s (item.Word w ∷ is) t e = elim (second_word-cases (record s { place = version }) w) [
  | inl f ↦ absurd (let g : obeyed (in_body Five s) (item.Word word.Version ∷ is) ≡ Ok t =
      ap (λ u. obeyed (in_body Five s) (item.Word u ∷ is)) (sym f) ∙ e in cc)
  | inr f ↦ record { after = t; obeys = ap (λ r. r >>= (λ next. obeyed next is)) f ∙ e; ends = refl }
]

-- what the body of an article of version 5 obeys is obeyed from its start
pub start-EndsLike : (v : Version) (s : State) (items : List Item) (t : State) → obeyed (in_body Five s) items ≡ Ok t
    → EndsLike (record s { place = start v }) items t
start-EndsLike v s [] t e = let f : in_body Five s ≡ t = cc in record { after = record s { place = start v }; obeys = refl; ends = ap finish f }
start-EndsLike v s (item.Name n ∷ is) t e = record { after = t; obeys = e; ends = refl }
start-EndsLike v s (item.Word w ∷ is) t e = record { after = t; obeys = e; ends = refl }
start-EndsLike v s (item.Number z ∷ is) t e = let r = go (int_eq z (pos 6)) in record { after = r.after; obeys = r.obeys; ends = r.ends }
  where
    go : (b : Bool) → EndsLike (record s { stack = Object.number z ∷ s.stack; place = cond b version (body Five) }) is t
    go true = at_second (record s { stack = Object.number z ∷ s.stack }) is t e
    go false = record { after = t; obeys = e; ends = refl }

-- and says no other version
pub version_of-Five : (s : State) (items : List Item) (t : State) → obeyed (in_body Five s) items ≡ Ok t → version_of items ≡ Five
version_of-Five s (item.Number z ∷ item.Word word.Version ∷ is) t e = absurd (cc)
version_of-Five s items t e = refl

-- Commands that lead to a state, from the start of an article
pub leads-EndsLike : (v : Version) (items : List Item) (t : State) → Leads v items t → EndsLike initial items t
leads-EndsLike Five items t h = subst (λ l. EndsLike initial l t) (sym h.is) (start-EndsLike Six initial h.rest t h.obeys)
leads-EndsLike Six items t h = subst (λ l. EndsLike initial l t) (sym h.is) (record { after = t; obeys = h.obeys; ends = refl })

pub leads-version : (v : Version) (items : List Item) (t : State) → Leads v items t → version_of items ≡ v
leads-version Five items t h = ap version_of h.is ∙ version_of-Five initial h.rest t h.obeys
leads-version Six items t h = ap version_of h.is
