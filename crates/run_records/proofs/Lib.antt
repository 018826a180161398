mod BoxesWritten
