-- What the caller lends to the call, and what the call leaves there.
use Rattle.std.specs.Prelude.{◌≡◌, ℕ, List}
use Rattle.march.specs.declared.pixel.Pixel.{Pixel}
use Rattle.render.specs.declared.buffers.Buffers.{Buffers}

abbrev pub lent_records : Buffers → List Pixel
lent_records b = b.records.now

abbrev pub lent_bytes : Buffers → List ℕ
lent_bytes b = b.out.now

-- an answer, beside the records and the bytes that it leaves
abbrev pub outcome : {A : Type 0} → A → Buffers → A × List Pixel × List ℕ
outcome answer b = (answer, lent_records b, lent_bytes b)

-- both lend the same records and the same bytes, whatever stands in them
abbrev pub SameLoans : Buffers → Buffers → Type 0
SameLoans old new = (new.records.ghost_name ≡ old.records.ghost_name) × (new.out.ghost_name ≡ old.out.ghost_name)
