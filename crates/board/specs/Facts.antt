-- Fixed facts that are valid.
use Rattle.std.specs.Prelude.{Bool, ◌&&◌, ◌^◌, leb, ltb}
use Rattle.board.specs.declared.facts.Facts.{Facts}

-- command line at most 256 bytes; DMA bits 16 to 31 zero
unfoldable pub valid_facts : Facts → Bool
valid_facts f = leb f.characters 256 && ltb f.dma (2 ^ 16)
