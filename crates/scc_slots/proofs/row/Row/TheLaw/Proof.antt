-- A `&` to a row shows all that a `&` to each of its entries shows. Assumes `Logic`.
use mathlib.Core.List.{[], ◌++◌}
use base.Fml.{Incl-trans}
use contract.BorrowLft.{meet_⊑_left}
use denote.RattleType.{RattleType}
use denote.RawPtr.{RawPtr}
use denote.Param.Laws.{Laws}
use denote.Param.Shared.{copy_shared}
use denote.Struct.Laws.{field_copy}
use denote.Struct.Lending.{of_Lends}
use Rattle.core.specs.contracts.marker.PhantomData as marker
use Rattle.scc_slots.specs.contracts.row.Row as Row
use Rattle.scc_slots.proofs.row.Row.TheLaw.Statement.{statement}
use Rattle.scc_slots.proofs.Shown.{row_shows-laws, row-lends}

pub shares : (R : RattleType) (L : Laws R) → statement R L
shares R L =
    let outlives = Incl-trans (meet_⊑_left (R.lives ++ []) _) (meet_⊑_left R.lives []) in
    of_Lends (Row.struct R) (Row.the_codes R.Denot R.coded (marker.the_row RawPtr).coded) (Row.the_heap R) (Row.the_lent R)
    (λ d p. row_shows-laws R L.shr_laws d.start d.cells) (copy_shared (marker.the_field RawPtr) (field_copy (marker.the_type RawPtr) tt), tt)
    (λ M 𝓤 𝓛 d p. row-lends 𝓛 (Row.the_row R).lives R L outlives d.start d.cells)
