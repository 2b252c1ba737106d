-- `carv_area::get` meets its contract. Assumes nothing.
use Rattle.std.proofs.Common.{◌∙◌, ap}
use Rattle.std.specs.Prelude.{List, ℕ, get_or, []}
use Rattle.std.specs.Int.{w64, from_le_bytes}
use Rattle.carv_area.specs.Laws.Words.{get_of}
use Rattle.carv_area.proofs.get.Goals as goal

pub returns : goal.returns
returns c =
    get_of _ c.args.k _ c.requires (c.from_le_bytes.ensures ∙ ap (λ (chunks : List (List ℕ)). from_le_bytes w64 (get_or chunks c.args.k [])) c.as_chunks.ensures.front)
