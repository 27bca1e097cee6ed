-- `textmap` meets its contract: a map's cut list from the stores of the call, or a message, by what the text was parsed as.
use Rattle.std.proofs.Common.{List, [], ◌∷◌, ◌++◌, sym, refl, ap, ◌∙◌, length-take-le}
use Prim.Native.Nat.{ℕ}
use Rattle.text.proofs.Printing.{printed_as}
use Rattle.text.proofs.Answers.{message_lem, small, labels_fit, map_read}
use Rattle.text.proofs.textmap.Goals as goal

pub slice_bounds-labels-end : goal.slice_bounds-labels-end
slice_bounds-labels-end c = labels_fit _ c.parse.ensures c.in-Ok.s refl c.in-Ok.is

pub slice_bounds-print_map-end : goal.slice_bounds-print_map-end
slice_bounds-print_map-end c = sym (length-take-le _ _ (labels_fit _ c.parse.ensures c.in-Ok.s refl c.in-Ok.is))

pub print_map-requires : goal.print_map-requires
print_map-requires c =
    let m = small _ c.parse.ensures c.in-Ok.s refl c.in-Ok.is in
    (m.narrow, m.low, length-take-le _ _ (labels_fit _ c.parse.ensures c.in-Ok.s refl c.in-Ok.is))

pub returns-in-Ok : goal.returns-in-Ok
returns-in-Ok c = printed_as (map_read _ c.parse.ensures c.in-Ok.s refl c.in-Ok.is) c.print_map.ensures

pub returns-in-Err : goal.returns-in-Err
returns-in-Err c =
    printed_as (ap (λ (m : List ℕ). m ++ (10 ∷ [])) c.text.ensures ∙ message_lem _ c.parse.ensures c.in-Err.bad c.in-Err.is) c.print_line.ensures
