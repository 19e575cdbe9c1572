mod CheckedEdits
