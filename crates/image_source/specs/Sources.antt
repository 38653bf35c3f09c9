-- What a source over bytes stands for. Assumes nothing.
use Rattle.reactive.specs.Rows.{Reading, at_place}
use Rattle.image.specs.Bytes.{see}
use Rattle.image_source.specs.declared.state.ImageSource.{ImageSource}
use Rattle.image_source.specs.Sections.{held_rows}

-- the rows that its bytes hold, and how many of them were given
abbrev pub image_reading : ImageSource → Reading
image_reading s = at_place (held_rows (see s.rows)) s.at.given
