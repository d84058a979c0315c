use Rattle.std.proofs.Common.{◌≡◌, ◌<◌, ◌≤◌, ◌+◌, ◌*◌, ◌-◌, ◌^◌, ◌∙◌, [], ◌∷◌, ap, sym, refl, arith, length, get_or, append-nil}
use Rattle.name_table.specs.Spellings.{packed, unpacked}
use Rattle.name_table.proofs.Packing.{get_or-AreBytes, room, move_last, nothing_left, digits-packed}
use Rattle.name_table.proofs.spelling.packed.Goals as goal

-- what is known where one more byte is read
known : (c : goal.After-row_known-1) → (255 * c.loop-left.number + 256 ≤ 2 ^ 120) × (get_or c.loop-left.left.now (length c.loop-left.left.now - 1) 0 < 256)
known c = let i = c.loop-left.invariant in room c.args.name.now c.loop-left.left.now i.0 c.loop-left.number
    (get_or-AreBytes c.args.name.now (λ i. omega (arith, c.type_inv.name i))) i.1 i.2 c.requires.short c.in-len1-up.len_at_least

pub overflow_mul-number : goal.overflow_mul-number
overflow_mul-number c =
    let i = c.loop-left.invariant in
    let k = room c.args.name.now c.loop-left.left.now i.0 c.loop-left.number (get_or-AreBytes c.args.name.now (λ j. omega (arith, c.type_inv.name j))) i.1 i.2
    c.requires.short c.in-len1-up.len_at_least in
    omega (arith, k.0)

pub overflow_add-number : goal.overflow_add-number
overflow_add-number c = let k = known c in omega (arith, k.0, k.1)

pub overflow_add-number-in-len1-up : goal.overflow_add-number-in-len1-up
overflow_add-number-in-len1-up c = let k = known c in omega (arith, k.0, k.1)

pub loop-left-preserved : goal.loop-left-preserved
loop-left-preserved c =
    let i = c.loop-left.invariant in
    let byte = get_or c.loop-left.left.now (length c.loop-left.left.now - 1) 0 in
    (byte ∷ i.0, move_last c.args.name.now c.loop-left.left.now i.0 i.1 c.in-len1-up.len_at_least, let m = i.2 in omega (arith, m))

pub loop-left-init : goal.loop-left-init
loop-left-init c = ([], sym (append-nil c.args.name.now), refl)

-- the bytes that were counted in are the whole name
whole : (c : goal.In_default) → c.loop-left.number ≡ packed c.args.name.now
whole c = let i = c.loop-left.invariant in i.2 ∙ ap packed (sym (nothing_left c.args.name.now c.loop-left.left.now i.0 i.1 c.in_default.len_below))

pub returns-clause-number : goal.returns-clause-number
returns-clause-number c = whole c

pub returns-clause-gives_back : goal.returns-clause-gives_back
returns-clause-gives_back c = ap unpacked (whole c) ∙ digits-packed 15 c.args.name.now c.requires.short
    (get_or-AreBytes c.args.name.now (λ i. omega (arith, c.type_inv.name i)))
