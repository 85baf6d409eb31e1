use Rattle.names.specs.declared.NameLocation.{NameLocation}
use Rattle.std.specs.Prelude.{Result, Ok}
use Rattle.refusal.specs.declared.Refusal.{Refusal}
use mathlib.Core.Path.{◌≡◌, sym, subst, ◌∙◌}
use native.Mathlib.Omega.{arith}
use Rattle.names.specs.Names.{list_bytes, Bytes, bytes_of, size, label_location}
use Rattle.names.proofs.Locations.{Fits, location_fits}
use Rattle.names.proofs.label.Goals as goal

pub overflow_add-result : goal.overflow_add-result
overflow_add-result c =
    let theirs-of : Bytes = bytes_of c.args.theirs in
    let house-of : Bytes = bytes_of c.args.house in
    let is_found : label_location c.args.day (theirs-of) (house-of) ≡ Ok c.in-Ok.location = sym c.label_location.ensures ∙ c.in-Ok.is in
    let fits : Fits (Ok c.in-Ok.location) (theirs-of) (house-of) = subst (λ (p : Result NameLocation Refusal). Fits p (theirs-of) (house-of)) (is_found)
    (location_fits c.args.day (theirs-of) (house-of)) in
    omega (arith, (fits).0)

pub slice_bounds-result-end : goal.slice_bounds-result-end
slice_bounds-result-end c =
    let theirs-of : Bytes = bytes_of c.args.theirs in
    let house-of : Bytes = bytes_of c.args.house in
    let is_found : label_location c.args.day (theirs-of) (house-of) ≡ Ok c.in-Ok.location = sym c.label_location.ensures ∙ c.in-Ok.is in
    let fits : Fits (Ok c.in-Ok.location) (theirs-of) (house-of) = subst (λ (p : Result NameLocation Refusal). Fits p (theirs-of) (house-of)) (is_found)
    (location_fits c.args.day (theirs-of) (house-of)) in
    let f = fits in
    let e : size (theirs-of) ≡ list_bytes = rw c.in-Theirs.is at f.1 in
    omega (arith, f.0, e)

pub overflow_add-result-in-House : goal.overflow_add-result-in-House
overflow_add-result-in-House c =
    let theirs-of : Bytes = bytes_of c.args.theirs in
    let house-of : Bytes = bytes_of c.args.house in
    let is_found : label_location c.args.day (theirs-of) (house-of) ≡ Ok c.in-Ok.location = sym c.label_location.ensures ∙ c.in-Ok.is in
    let fits : Fits (Ok c.in-Ok.location) (theirs-of) (house-of) = subst (λ (p : Result NameLocation Refusal). Fits p (theirs-of) (house-of)) (is_found)
    (location_fits c.args.day (theirs-of) (house-of)) in
    omega (arith, (fits).0)

pub slice_bounds-result-end-in-House : goal.slice_bounds-result-end-in-House
slice_bounds-result-end-in-House c =
    let house-of : Bytes = bytes_of c.args.house in
    let theirs-of : Bytes = bytes_of c.args.theirs in
    let is_found : label_location c.args.day (theirs-of) (house-of) ≡ Ok c.in-Ok.location = sym c.label_location.ensures ∙ c.in-Ok.is in
    let fits : Fits (Ok c.in-Ok.location) (theirs-of) (house-of) = subst (λ (p : Result NameLocation Refusal). Fits p (theirs-of) (house-of)) (is_found)
    (location_fits c.args.day (theirs-of) (house-of)) in
    let f = fits in
    let e : size (house-of) ≡ list_bytes = rw c.in-House.is at f.1 in
    omega (arith, f.0, e)
